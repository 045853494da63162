-- Which of a leaf's sources are in the log, and when its page is the only one.
use Rattle.std.proofs.Common.{◌≡◌, ◌≢◌, ℕ, ◌<◌, ◌≤◌, List, [], ◌∷◌, length, Some, None, refl, sym, ap, ◌∙◌, subst, arith, inl, inr}
use Rattle.std.proofs.lemmas.Bool.{cases_lt}
use Rattle.codec.specs.declared.dc_record.DcRecord.{DcRecord}
use Rattle.codec.specs.declared.dc_record.DcRecord.TheVariants.{Accept, Split, Merge}
use Rattle.dc_leaf.specs.Leaf.{LeafView}
use Rattle.dc_leaf.specs.Tiles.{part_of}
use Rattle.dc_recovery.specs.Images.{leaf_of}
use Rattle.dc_recovery.specs.Shape.{part_in, shape, named, FitsSplit, FitsMerge, IsLegal}
use Rattle.framed_log.specs.Beginning.{beginning}
use Rattle.dc_recovery.specs.Recovery.{Pages}
use Rattle.dc_recovery.specs.Laws.{IsSeen, LoggedHave, SourcesHave}
use Rattle.dc_recovery.proofs.Finding.{next_left}
use Rattle.dc_recovery.proofs.Shapes.{known}
use Rattle.framed_log.proofs.Beginning.{shorter, whole, of_beginning}

-- leaves in records have numbers that were named
not_left : (log : List DcRecord) (left right id : ℕ) → IsLegal log → part_in left (shape log) ≢ None → named log < id
    → left ≢ id
not_left log left right id legal is above e = is (known log left legal (subst (λ (x : ℕ). named log < x) (sym e) above))

pub unnamed : (P : LeafView → Type 0) (pages : Pages) (log : List DcRecord) (id : ℕ) → IsLegal log → named log < id
    → LoggedHave P pages id log
unnamed P pages [] id legal above = λ e none. absurd (omega (arith, e, above))
unnamed P pages (Accept session ∷ log) id legal above =
    (λ made is own unseen. absurd (cc), unnamed P pages log id legal.1 above)
unnamed P pages (Split left cut right ∷ log) id legal above =
    let fits : FitsSplit log left cut right = legal.0 in (
      λ made is own unseen. let e : leaf_of right ≡ made =
          cc in absurd (omega (arith, above, own, ap (λ (x : LeafView). x.id) e)),
      unnamed P pages log id legal.1 (omega (arith, fits.next, above)),
    )
unnamed P pages (Merge left right merged ∷ log) id legal above =
    let fits : FitsMerge log left right merged = legal.0 in (
      λ made is own unseen.
          let e : leaf_of merged ≡ made = cc in
          absurd
          (not_left log left right id legal.1 (next_left left right (shape log) fits.neighbours) above
          (sym fits.id ∙ ap (λ (x : LeafView). x.id) e ∙ own)),
      unnamed P pages log id legal.1 above,
    )

-- pages at a number alone count
pub logged_alike : (P : LeafView → Type 0) (pages others : Pages) (id : ℕ) (log : List DcRecord)
    → pages id ≡ others id → LoggedHave P pages id log → LoggedHave P others id log
logged_alike P pages others id [] same h = λ e none. h e (same ∙ none)
logged_alike P pages others id (r ∷ log) same h = (
  λ made is own unseen. h.0 made is own
      (λ page at. unseen page (sym same ∙ at)),
  logged_alike P pages others id log same h.1,
)

-- a page that has seen every record is the only source
logged_seen : (P : LeafView → Type 0) (pages : Pages) (id : ℕ) (page : LeafView) (log : List DcRecord)
    → pages id ≡ Some page → IsSeen id page.last log → LoggedHave P pages id log
logged_seen P pages id page [] is seen = λ e none. let no : Some page ≡ None = sym is ∙ none in absurd (cc)
logged_seen P pages id page (r ∷ log) is seen = (
  λ made at own unseen. absurd
      (omega (arith, seen.0 made at own, unseen page is)),
  logged_seen P pages id page log is seen.1,
)

pub seen_beginning : (id m : ℕ) (log : List DcRecord) (n : ℕ) → IsSeen id m log → IsSeen id m (beginning log n)
seen_beginning id m log n seen = of_beginning (IsSeen id m) n (λ r l more h. h.1) log seen

pub page_alone : (P : LeafView → Type 0) (pages : Pages) (id : ℕ) (page : LeafView) (log : List DcRecord)
    → pages id ≡ Some page → P page → IsSeen id page.last log → SourcesHave P pages id log
page_alone P pages id page log is has seen = record {
  page = λ other at. let both : Some page ≡ Some other = sym is ∙ at in let e : page ≡ other = cc in subst P e has;
  logged = logged_seen P pages id page log is seen;
}

-- a number by which the records of a leaf are seen, among those that were forced
pub record IsSeenBy (forced id : ℕ) (log : List DcRecord) : Type 0 where
  pub number : ℕ
  pub known : number ≤ forced
  pub seen : IsSeen id number log

-- where that is so of each leaf that is there, no later record changed the shape
pub forced_shape : (log : List DcRecord) (forced : ℕ) → IsLegal log
    → ((id : ℕ) → part_in id (shape log) ≢ None → IsSeenBy forced id log)
    → (n : ℕ) → forced ≤ n → shape (beginning log n) ≡ shape log
forced_shape [] forced legal each n le = ap shape (whole [] n (omega arith))
forced_shape (r ∷ log) forced legal each n le =
    elim (cases_lt (length log) n) [
      | inl less ↦ ap shape (whole (r ∷ log) n (omega (arith, less)))
      | inr ge ↦
          ap shape (shorter r log n ge) ∙ older r legal each ge (λ legal each. forced_shape log forced legal each n le)
    ]
  where
    older : (r : DcRecord) → IsLegal (r ∷ log)
        → ((id : ℕ) → part_in id (shape (r ∷ log)) ≢ None → IsSeenBy forced id (r ∷ log)) → n ≤ length log
        →
        (IsLegal log → ((id : ℕ) → part_in id (shape log) ≢ None → IsSeenBy forced id log) → shape
        (beginning log n) ≡ shape log)
        → shape (beginning log n) ≡ shape (r ∷ log)
    older (Accept session) legal each ge same =
        same legal.1 (λ id at. let s = each id at in record { number = s.number; known = s.known; seen = s.seen.1 })
    older (Split left cut right) legal each ge same =
        let fits : FitsSplit log left cut right = legal.0 in
        let s = each right.id (λ none. let no : Some (part_of (leaf_of right)) ≡ None = sym fits.fences ∙ none in cc) in
        absurd (omega (arith, s.seen.0 (leaf_of right) refl refl, s.known, le, ge))
    older (Merge left right merged) legal each ge same =
        let fits : FitsMerge log left right merged = legal.0 in
        let s = each left (λ none. let no : Some (part_of (leaf_of merged)) ≡ None = sym fits.fences ∙ none in cc) in
        absurd (omega (arith, s.seen.0 (leaf_of merged) refl fits.id, s.known, le, ge))
