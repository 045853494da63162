-- Recovered leaves are as the log has them.
use Rattle.std.proofs.Common.{◌≡◌, ◌⊎◌, ℕ, ◌+◌, ◌<◌, ◌≤◌, List, [], ◌∷◌, length, Some, None, refl, sym, ap, ◌∙◌, subst, arith, inl, inr}
use Rattle.std.proofs.lemmas.Bool.{cases_eq, cases_lt}
use Rattle.record_key.specs.Table.{Bytes}
use Rattle.codec.specs.declared.image.LeafImage.{LeafImage}
use Rattle.codec.specs.declared.dc_record.DcRecord.{DcRecord}
use Rattle.codec.specs.declared.dc_record.DcRecord.TheVariants.{Accept, Split, Merge}
use Rattle.dc_leaf.specs.Leaf.{LeafView, first}
use Rattle.dc_leaf.specs.Parting.{lower_of}
use Rattle.dc_leaf.specs.Tiles.{part_of}
use Rattle.dc_recovery.specs.Images.{leaf_of}
use Rattle.dc_recovery.specs.Shape.{part_in, shape, FitsSplit, FitsMerge, IsLegal}
use Rattle.framed_log.specs.Beginning.{beginning}
use Rattle.framed_log.proofs.Beginning.{whole, shorter}
use Rattle.dc_recovery.specs.Recovery.{Pages, cut_again, merged_again, recovered, FitPages}
use Rattle.dc_recovery.specs.Laws.{IsCurrent}
use Rattle.dc_recovery.proofs.Finding.{part_own}
use Rattle.dc_recovery.proofs.Splitting.{split_other}
use Rattle.dc_recovery.proofs.Merging.{merge_other}
use Rattle.dc_recovery.proofs.Shapes.{known_before}
use Rattle.dc_recovery.proofs.Current.{IsOther, accept_is_other, split_is_other, merge_is_other, now_current, stays_current, first_current, new_current, cut_current, merged_current}
use Rattle.dc_recovery.proofs.Recovering.{cut_older, cut_newer, merged_older, merged_newer, Source, at_new, at_cut, by_split, at_gone, at_merged, by_merge, at_first}

-- pages that the log knows of have the fences that it gave their leaves then
abbrev pub Agree : Pages → List DcRecord → Type 0
Agree pages log =
    (id : ℕ) (page : LeafView) → pages id ≡ Some page → page.last ≤ length log
    → part_in id (shape (beginning log page.last)) ≡ Some (part_of page)

pub agree_older : (pages : Pages) (r : DcRecord) (log : List DcRecord) → Agree pages (r ∷ log) → Agree pages log
agree_older pages r log agree id page is le =
    subst (λ (l : List DcRecord). part_in id (shape l) ≡ Some (part_of page)) (shorter r log page.last le)
    (agree id page is (omega (arith, le)))

pub agrees : (pages : Pages) (log : List DcRecord) (forced : ℕ) → FitPages pages log forced → Agree pages log
agrees pages log forced fit id page is le = (fit.each id page is).fences

-- amid recovery a leaf has the fences of the shape so far, or is a page that is further on
abbrev pub IsSound : Pages → List DcRecord → ℕ → LeafView → Type 0
IsSound pages log id leaf = IsCurrent log id leaf ⊎ ((length log < leaf.last) × (pages id ≡ Some leaf))

-- a page that is further on than the records before
page_sound : (pages : Pages) (r : DcRecord) (log : List DcRecord) (id : ℕ) (page : LeafView) → Agree pages (r ∷ log)
    → pages id ≡ Some page → length log < page.last
    → IsSound pages (r ∷ log) id page
page_sound pages r log id page agree is less =
    elim (cases_lt (length (r ∷ log)) page.last) [
      | inl more ↦ inr (more, is)
      | inr le ↦
          inl
          (now_current r log id page (omega (arith, less, le))
          (subst (λ (l : List DcRecord). part_in id (shape l) ≡ Some (part_of page))
          (whole (r ∷ log) page.last (omega (arith, less))) (agree id page is le)))
    ]

-- a leaf that a record doesn't change
stays_sound : (pages : Pages) (r : DcRecord) (log : List DcRecord) (id : ℕ) (leaf : LeafView) → Agree pages (r ∷ log)
    → part_in id (shape (r ∷ log)) ≡ part_in id (shape log) → IsOther r id
    → IsSound pages log id leaf → IsSound pages (r ∷ log) id leaf
stays_sound pages r log id leaf agree same other (inl old) = inl (stays_current r log id leaf same other old)
stays_sound pages r log id leaf agree same other (inr new) = page_sound pages r log id leaf agree new.1 new.0

module _ (pages : Pages) (log : List DcRecord) (left : ℕ) (cut : Bytes) (right : LeafImage) (legal : IsLegal log)
    (fits : FitsSplit log left cut right) (agree : Agree pages (Split left cut right ∷ log)) where
  new_sound : (id : ℕ) (leaf : LeafView) → id ≡ right.id → Source (pages id) (leaf_of right) leaf
      → IsSound pages (Split left cut right ∷ log) id leaf
  new_sound id leaf e s =
      elim s.from [
        | inl is ↦ elim (cases_lt (length log) leaf.last) [
          | inl less ↦ page_sound pages (Split left cut right) log id leaf agree is less
          | inr le ↦
              let no : None ≡ Some (part_of leaf) =
              sym (known_before log leaf.last id legal (omega (arith, e, fits.next)))
              ∙ agree_older pages (Split left cut right) log agree id leaf is le in
              absurd (cc)
        ]
        | inr made ↦
            subst (λ (x : LeafView). IsSound pages (Split left cut right ∷ log) id x) made.1
            (inl
            (subst (λ (x : ℕ). IsCurrent (Split left cut right ∷ log) x (leaf_of right)) (sym e)
            (new_current log left cut right fits)))
      ]

  cut_sound : (id : ℕ) (x leaf : LeafView) → id ≡ left → cut_again (length log + 1) cut x ≡ leaf
      → IsSound pages log id x
      → IsSound pages (Split left cut right ∷ log) id leaf
  cut_sound id x leaf e now (inl old) =
      subst (λ (y : LeafView). IsSound pages (Split left cut right ∷ log) id y)
      (sym (cut_older (length log + 1) cut x (omega (arith, old.last))) ∙ now)
      (inl (subst (λ (z : ℕ). IsCurrent (Split left cut right ∷ log) z (lower_of x cut (length log + 1))) (sym e)
      (cut_current log left cut right x fits (subst (λ (z : ℕ). IsCurrent log z x) e old))))
  cut_sound id x leaf e now (inr new) =
      subst (λ (y : LeafView). IsSound pages (Split left cut right ∷ log) id y)
      (sym (cut_newer (length log + 1) cut x (omega (arith, new.0))) ∙ now)
      (page_sound pages (Split left cut right) log id x agree new.1 new.0)

  split_sound : ((id : ℕ) (leaf : LeafView) → recovered pages log id ≡ Some leaf → IsSound pages log id leaf)
      → (id : ℕ) (leaf : LeafView) → recovered pages (Split left cut right ∷ log) id ≡ Some leaf
      → IsSound pages (Split left cut right ∷ log) id leaf
  split_sound before id leaf h =
      elim (cases_eq id right.id) [
        | inl e ↦ new_sound id leaf e (at_new pages log left id cut right leaf e h)
        | inr fresh ↦ elim (cases_eq id left) [
          | inl e ↦
              let w = at_cut pages log left id cut right leaf fresh e h in
              cut_sound id w.was leaf e w.now (before id w.was w.there)
          | inr other ↦
              stays_sound pages (Split left cut right) log id leaf agree
              (split_other left right.id id cut (shape log) other fresh) (split_is_other left cut right id fresh)
              (before id leaf (by_split pages log left id cut right leaf fresh other h))
        ]
      ]

module _ (pages : Pages) (log : List DcRecord) (left right : ℕ) (merged : LeafImage)
    (fits : FitsMerge log left right merged) (agree : Agree pages (Merge left right merged ∷ log)) where
  merged_sound : (id : ℕ) (x leaf : LeafView) → id ≡ left → merged_again (length log + 1) (leaf_of merged) x ≡ leaf
      → IsSound pages log id x
      → IsSound pages (Merge left right merged ∷ log) id leaf
  merged_sound id x leaf e now (inl old) =
      subst (λ (y : LeafView). IsSound pages (Merge left right merged ∷ log) id y)
      (sym (merged_older (length log + 1) (leaf_of merged) x (omega (arith, old.last))) ∙ now)
      (inl
      (subst (λ (z : ℕ). IsCurrent (Merge left right merged ∷ log) z (leaf_of merged)) (sym e)
      (merged_current log left right merged fits)))
  merged_sound id x leaf e now (inr new) =
      subst (λ (y : LeafView). IsSound pages (Merge left right merged ∷ log) id y)
      (sym (merged_newer (length log + 1) (leaf_of merged) x (omega (arith, new.0))) ∙ now)
      (page_sound pages (Merge left right merged) log id x agree new.1 new.0)

  merge_sound : ((id : ℕ) (leaf : LeafView) → recovered pages log id ≡ Some leaf → IsSound pages log id leaf)
      → (id : ℕ) (leaf : LeafView) → recovered pages (Merge left right merged ∷ log) id ≡ Some leaf
      → IsSound pages (Merge left right merged ∷ log) id leaf
  merge_sound before id leaf h =
      elim (cases_eq id right) [
        | inl e ↦ absurd (at_gone pages log left right id merged leaf e h)
        | inr gone ↦ elim (cases_eq id left) [
          | inl e ↦
              let w = at_merged pages log left right id merged leaf gone e h in
              merged_sound id w.was leaf e w.now (before id w.was w.there)
          | inr other ↦
              stays_sound pages (Merge left right merged) log id leaf agree
              (merge_other left right id (shape log) other gone fits.neighbours)
              (merge_is_other log left right merged id fits other)
              (before id leaf (by_merge pages log left right id merged leaf gone other h))
        ]
      ]

first_sound : (pages : Pages) (id : ℕ) (leaf : LeafView) → Agree pages [] → (id ≡ 1) × Source (pages id) first leaf
    → IsSound pages [] id leaf
first_sound pages id leaf agree s =
    elim s.1.from [
      | inl is ↦ elim (cases_lt 0 leaf.last) [
        | inl less ↦ inr (less, is)
        | inr le ↦
            let written = agree id leaf is le in
            let none : shape (beginning [] leaf.last) ≡ shape [] = ap shape (whole [] leaf.last (omega arith)) in
            let at : part_in id (shape []) ≡ Some (part_of leaf) = ap (part_in id) (sym none) ∙ written in
            inl (record {
              own = part_own id (shape []) (part_of leaf) at;
              last = le;
              fences = at;
              written = written;
              seen = tt;
            })
      ]
      | inr made ↦ subst (λ (x : LeafView). IsSound pages [] id x) made.1 (inl (first_current id s.0))
    ]

pub sound : (pages : Pages) (log : List DcRecord) → IsLegal log → Agree pages log → (id : ℕ) (leaf : LeafView)
    → recovered pages log id ≡ Some leaf → IsSound pages log id leaf
sound pages [] legal agree id leaf h = first_sound pages id leaf agree (at_first pages id leaf h)
sound pages (Accept session ∷ log) legal agree id leaf h =
    stays_sound pages (Accept session) log id leaf agree refl (accept_is_other session id)
    (sound pages log legal.1 (agree_older pages (Accept session) log agree) id leaf h)
sound pages (Split left cut right ∷ log) legal agree id leaf h =
    split_sound pages log left cut right legal.1 legal.0 agree
    (sound pages log legal.1 (agree_older pages (Split left cut right) log agree)) id leaf h
sound pages (Merge left right merged ∷ log) legal agree id leaf h =
    merge_sound pages log left right merged legal.0 agree
    (sound pages log legal.1 (agree_older pages (Merge left right merged) log agree)) id leaf h

-- at the end no page is further on
pub fences_recovered : (pages : Pages) (log : List DcRecord) (forced : ℕ) → IsLegal log → FitPages pages log forced
    → (id : ℕ) (leaf : LeafView) → recovered pages log id ≡ Some leaf
    → IsCurrent log id leaf
fences_recovered pages log forced legal fit id leaf h =
    elim (sound pages log legal (agrees pages log forced fit) id leaf h) [
      | inl old ↦ old
      | inr new ↦ absurd (omega (arith, new.0, fit.kept, (fit.each id leaf new.1).last))
    ]
