-- Which leaves are there after a log doesn't depend on the pages, so neither does which record may come next.
use Rattle.std.proofs.Common.{◌≡◌, ℕ, ◌+◌, ◌==◌, true, false, List, [], ◌∷◌, length, Option, is_some, refl, sym, ◌∙◌, inl, inr, true≢false, eq-eqb}
use Rattle.std.proofs.lemmas.Bool.{cases_Bool, and_parts, and_from, eqb-true}
use Rattle.codec.specs.declared.dc_record.DcRecord.{DcRecord}
use Rattle.codec.specs.declared.dc_record.DcRecord.TheVariants.{Accept, Split, Merge}
use Rattle.dc_leaf.specs.Leaf.{LeafView}
use Rattle.dc_recovery.specs.Images.{leaf_of}
use Rattle.dc_recovery.specs.Shape.{named}
use Rattle.dc_recovery.specs.Recovery.{Pages, cut_again, merged_again, at_left, recovered}
use Rattle.dc_recovery.specs.Ready.{IsReadable}
use Rattle.dc_recovery.proofs.Presence.{some_changed}
use Rattle.dc_store.specs.Known.{lives, may_follow}

-- a change of the left leaf takes none away
left_there : (id left : ℕ) (f : LeafView → LeafView) (o : Option LeafView) → is_some (at_left id left f o) ≡ is_some o
left_there id left f o =
    elim (cases_Bool (id == left)) [
      | inl here ↦ rw here (some_changed f o)
      | inr other ↦ rw other refl
    ]

pub lives_recovered : (pages : Pages) (log : List DcRecord) (id : ℕ) → is_some (recovered pages log id) ≡ lives log id
lives_recovered pages [] id =
    elim (cases_Bool (id == 1)) [
      | inl first ↦ rw first refl
      | inr other ↦ rw other refl
    ]
lives_recovered pages (Accept session ∷ log) id = lives_recovered pages log id
lives_recovered pages (Split left cut right ∷ log) id =
    elim (cases_Bool (id == right.id)) [
      | inl made ↦ rw made refl
      | inr other ↦
          rw other
          (left_there id left (cut_again (length log + 1) cut) (recovered pages log id) ∙ lives_recovered pages log id)
    ]
lives_recovered pages (Merge left right merged ∷ log) id =
    elim (cases_Bool (id == right)) [
      | inl gone ↦ rw gone refl
      | inr other ↦
          rw other
          (left_there id left (merged_again (length log + 1) (leaf_of merged)) (recovered pages log id)
          ∙ lives_recovered pages log id)
    ]

-- a record that may follow is readable, whatever the pages hold
pub readable_next : (pages : Pages) (log : List DcRecord) (r : DcRecord) → may_follow log r ≡ true
    → IsReadable pages log r
readable_next pages log (Accept session) may = tt
readable_next pages log (Split left cut right) may =
    let both = and_parts (lives log left) (right.id == named log + 1) may in
    (lives_recovered pages log left ∙ both.0, eqb-true right.id (named log + 1) both.1)
readable_next pages log (Merge left right merged) may =
    let both = and_parts (lives log left) (lives log right) may in
    (lives_recovered pages log left ∙ both.0, lives_recovered pages log right ∙ both.1)

may_next : (pages : Pages) (log : List DcRecord) (r : DcRecord) → IsReadable pages log r → may_follow log r ≡ true
may_next pages log (Accept session) h = refl
may_next pages log (Split left cut right) h =
    and_from (lives log left) (right.id == named log + 1) (sym (lives_recovered pages log left) ∙ h.0)
    (eq-eqb right.id (named log + 1) h.1)
may_next pages log (Merge left right merged) h =
    and_from (lives log left) (lives log right) (sym (lives_recovered pages log left) ∙ h.0)
    (sym (lives_recovered pages log right) ∙ h.1)

-- and one that may not isn't
pub unreadable_next : (pages : Pages) (log : List DcRecord) (r : DcRecord) → may_follow log r ≡ false
    → IsReadable pages log r → ⊥
unreadable_next pages log r not h = true≢false (sym (may_next pages log r h) ∙ not)
