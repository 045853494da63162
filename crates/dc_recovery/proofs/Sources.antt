-- A recovered leaf has what its sources have.
use Rattle.std.proofs.Common.{◌≡◌, ℕ, ◌+◌, ◌<◌, ◌≤◌, List, [], ◌∷◌, length, Option, Some, None, refl, sym, ap, ◌∙◌, subst, arith, inl, inr}
use Rattle.std.proofs.lemmas.Bool.{cases_eq, cases_lt}
use Rattle.record_key.specs.Table.{Bytes}
use Rattle.codec.specs.declared.image.LeafImage.{LeafImage}
use Rattle.codec.specs.declared.dc_record.DcRecord.{DcRecord}
use Rattle.codec.specs.declared.dc_record.DcRecord.TheVariants.{Accept, Split, Merge}
use Rattle.dc_leaf.specs.Leaf.{LeafView, first}
use Rattle.dc_leaf.specs.Tiles.{Part, part_of, IsInside}
use Rattle.dc_recovery.specs.Images.{leaf_of}
use Rattle.dc_recovery.specs.Shape.{part_in, shape, FitsSplit, FitsMerge, IsLegal}
use Rattle.dc_recovery.specs.Recovery.{Pages, cut_again, merged_again, recovered}
use Rattle.dc_recovery.specs.Laws.{LoggedHave, IsKeptByCuts, RecoveredHave}
use Rattle.dc_recovery.proofs.Recovering.{cut_older, cut_newer, merged_older, merged_newer, Source, at_new, at_cut, by_split, at_gone, at_merged, by_merge, at_first}
use Rattle.dc_recovery.proofs.Sound.{Agree, agree_older, agrees, IsSound, sound}

-- a leaf is no older than its page
since_cut : (d : ℕ) (cut : Bytes) (x leaf : LeafView) (n : ℕ) → cut_again d cut x ≡ leaf → n ≤ x.last → n ≤ leaf.last
since_cut d cut x leaf n now le =
    elim (cases_lt x.last d) [
      | inl less ↦ subst (λ (y : LeafView). n ≤ y.last) (sym (cut_older d cut x less) ∙ now) (omega (arith, le, less))
      | inr ge ↦ subst (λ (y : LeafView). n ≤ y.last) (sym (cut_newer d cut x ge) ∙ now) le
    ]

since_merged : (d : ℕ) (merged x leaf : LeafView) (n : ℕ) → merged.last ≡ d → merged_again d merged x ≡ leaf
    → n ≤ x.last → n ≤ leaf.last
since_merged d merged x leaf n last now le =
    elim (cases_lt x.last d) [
      | inl less ↦
          subst (λ (y : LeafView). n ≤ y.last) (sym (merged_older d merged x less) ∙ now)
          (omega (arith, le, less, last))
      | inr ge ↦ subst (λ (y : LeafView). n ≤ y.last) (sym (merged_newer d merged x ge) ∙ now) le
    ]

since_source : (o : Option LeafView) (other leaf page : LeafView) → Source o other leaf → o ≡ Some page
    → page.last ≤ leaf.last
since_source o other leaf page s is =
    elim s.from [
      | inl same ↦
          let both : Some page ≡ Some leaf = sym is ∙ same in
          let e : page ≡ leaf = cc in subst (λ (y : LeafView). page.last ≤ y.last) e (omega arith)
      | inr made ↦ let no : None ≡ Some page = sym made.0 ∙ is in absurd (cc)
    ]

since : (pages : Pages) (log : List DcRecord) → IsLegal log → (id : ℕ) (leaf page : LeafView)
    → recovered pages log id ≡ Some leaf → pages id ≡ Some page → page.last ≤ leaf.last
since pages [] legal id leaf page h is = since_source (pages id) first leaf page (at_first pages id leaf h).1 is
since pages (Accept session ∷ log) legal id leaf page h is = since pages log legal.1 id leaf page h is
since pages (Split left cut right ∷ log) legal id leaf page h is =
    elim (cases_eq id right.id) [
      | inl e ↦ since_source (pages id) (leaf_of right) leaf page (at_new pages log left id cut right leaf e h) is
      | inr fresh ↦ elim (cases_eq id left) [
        | inl e ↦
            let w = at_cut pages log left id cut right leaf fresh e h in
            since_cut (length log + 1) cut w.was leaf page.last w.now (since pages log legal.1 id w.was page w.there is)
        | inr other ↦ since pages log legal.1 id leaf page (by_split pages log left id cut right leaf fresh other h) is
      ]
    ]
since pages (Merge left right merged ∷ log) legal id leaf page h is =
    let fits : FitsMerge log left right merged = legal.0 in
    elim (cases_eq id right) [
      | inl e ↦ absurd (at_gone pages log left right id merged leaf e h)
      | inr gone ↦ elim (cases_eq id left) [
        | inl e ↦
            let w = at_merged pages log left right id merged leaf gone e h in
            since_merged (length log + 1) (leaf_of merged) w.was leaf page.last fits.last w.now
            (since pages log legal.1 id w.was page w.there is)
        | inr other ↦
            since pages log legal.1 id leaf page (by_merge pages log left right id merged leaf gone other h) is
      ]
    ]

-- what the sources have and cuts keep
module _ (P : LeafView → Type 0) (pages : Pages) (keeps : IsKeptByCuts P) where
  has_source : (id : ℕ) (other leaf : LeafView) → ((page : LeafView) → pages id ≡ Some page → P page)
      → (pages id ≡ None → P other) → Source (pages id) other leaf → P leaf
  has_source id other leaf page made s = elim s.from [ inl is ↦ page leaf is | inr m ↦ subst P m.1 (made m.0) ]

  cut_has : (log : List DcRecord) (left id : ℕ) (cut : Bytes) (right : LeafImage) (x leaf : LeafView)
      → FitsSplit log left cut right → id ≡ left → cut_again (length log + 1) cut x ≡ leaf
      → IsSound pages log id x → P x → P leaf
  cut_has log left id cut right x leaf fits e now (inl old) h =
      let both : Some (part_of x) ≡ Some fits.old =
      sym old.fences ∙ ap (λ (z : ℕ). part_in z (shape log)) e ∙ fits.there in
      let same : fits.old ≡ part_of x = cc in
      subst P (sym (cut_older (length log + 1) cut x (omega (arith, old.last))) ∙ now)
      (keeps x (length log + 1) cut (omega (arith, old.last)) (subst (λ (p : Part). IsInside p cut) same fits.inside) h)
  cut_has log left id cut right x leaf fits e now (inr new) h =
      subst P (sym (cut_newer (length log + 1) cut x (omega (arith, new.0))) ∙ now) h

  merged_has : (d : ℕ) (merged x leaf : LeafView) → merged_again d merged x ≡ leaf → (x.last < d → P merged) → P x
      → P leaf
  merged_has d merged x leaf now made h =
      elim (cases_lt x.last d) [
        | inl less ↦ subst P (sym (merged_older d merged x less) ∙ now) (made less)
        | inr ge ↦ subst P (sym (merged_newer d merged x ge) ∙ now) h
      ]

  has : (log : List DcRecord) (id : ℕ) (leaf : LeafView) → IsLegal log → Agree pages log
      → ((page : LeafView) → pages id ≡ Some page → P page) → LoggedHave P pages id log
      → recovered pages log id ≡ Some leaf → P leaf
  has [] id leaf legal agree page logged h =
      let s = at_first pages id leaf h in has_source id first leaf page (λ none. logged s.0 none) s.1
  has (Accept session ∷ log) id leaf legal agree page logged h =
      has log id leaf legal.1 (agree_older pages (Accept session) log agree) page logged.1 h
  has (Split left cut right ∷ log) id leaf legal agree page logged h =
      let older : Agree pages log = agree_older pages (Split left cut right) log agree in
      elim (cases_eq id right.id) [
        | inl e ↦
            has_source id (leaf_of right) leaf page
            (λ none. logged.0 (leaf_of right) refl (sym e)
            (λ p is. let no : None ≡ Some p = sym none ∙ is in absurd (cc)))
            (at_new pages log left id cut right leaf e h)
        | inr fresh ↦ elim (cases_eq id left) [
          | inl e ↦
              let w = at_cut pages log left id cut right leaf fresh e h in
              cut_has log left id cut right w.was leaf legal.0 e w.now (sound pages log legal.1 older id w.was w.there)
              (has log id w.was legal.1 older page logged.1 w.there)
          | inr other ↦
              has log id leaf legal.1 older page logged.1 (by_split pages log left id cut right leaf fresh other h)
        ]
      ]
  has (Merge left right merged ∷ log) id leaf legal agree page logged h =
      let older : Agree pages log = agree_older pages (Merge left right merged) log agree in
      let fits : FitsMerge log left right merged = legal.0 in
      elim (cases_eq id right) [
        | inl e ↦ absurd (at_gone pages log left right id merged leaf e h)
        | inr gone ↦ elim (cases_eq id left) [
          | inl e ↦
              let w = at_merged pages log left right id merged leaf gone e h in
              merged_has (length log + 1) (leaf_of merged) w.was leaf w.now
              (λ less. logged.0 (leaf_of merged) refl (fits.id ∙ sym e)
              (λ p is. let le : p.last ≤ w.was.last = since pages log legal.1 id w.was p w.there is in omega
              (arith, le, less)))
              (has log id w.was legal.1 older page logged.1 w.there)
          | inr other ↦
              has log id leaf legal.1 older page logged.1 (by_merge pages log left right id merged leaf gone other h)
        ]
      ]

-- the law
pub recovered_have : RecoveredHave
recovered_have P pages log forced id leaf keeps legal fit sources h =
    has P pages keeps log id leaf legal (agrees pages log forced fit) sources.page sources.logged h
