-- The numbers of recovered leaves are ones that the log names.
use Rattle.std.proofs.Common.{◌≡◌, ℕ, ◌≤◌, true, List, [], ◌∷◌, ◌++◌, Some, is_some, sym, ap, ◌∙◌, arith, inl, inr}
use Rattle.std.specs.Prelude.{not, ◌==◌}
use Rattle.std.proofs.lemmas.Bool.{and_parts, or_cases, eqb-true}
use Rattle.codec.specs.declared.dc_record.DcRecord.{DcRecord}
use Rattle.codec.specs.declared.dc_record.DcRecord.TheVariants.{Accept, Split, Merge}
use Rattle.dc_leaf.specs.Leaf.{LeafView}
use Rattle.dc_recovery.specs.Ready.{AreReadable}
use Rattle.dc_recovery.specs.Recovery.{Pages, recovered}
use Rattle.dc_recovery.specs.Shape.{named}
use Rattle.dc_store.specs.Known.{lives}
use Rattle.dc_store.proofs.Lives.{lives_recovered}

-- a leaf that is there has a number that was named
lives_named : (pages : Pages) (log : List DcRecord) (id : ℕ) → AreReadable pages log → lives log id ≡ true
    → id ≤ named log
lives_named pages [] id readable h = omega (arith, eqb-true id 1 h)
lives_named pages (Accept session ∷ log) id readable h = lives_named pages log id readable.1 h
lives_named pages (Split left cut right ∷ log) id readable h =
    elim (or_cases (id == right.id) (lives log id) h) [
      | inl here ↦ omega (arith, eqb-true id right.id here)
      | inr was ↦ omega (arith, lives_named pages log id readable.1 was, readable.0.1)
    ]
lives_named pages (Merge left right merged ∷ log) id readable h =
    lives_named pages log id readable.1 (and_parts (not (id == right)) (lives log id) h).1

pub known_some : (pages : Pages) (log : List DcRecord) (id : ℕ) → AreReadable pages log
    → is_some (recovered pages log id) ≡ true → id ≤ named log
known_some pages log id readable h = lives_named pages log id readable (sym (lives_recovered pages log id) ∙ h)

pub known : (pages : Pages) (log : List DcRecord) (id : ℕ) (leaf : LeafView) → AreReadable pages log
    → recovered pages log id ≡ Some leaf → id ≤ named log
known pages log id leaf readable h = known_some pages log id readable (ap is_some h)

-- a beginning of the records
pub older_readable : (pages : Pages) (newer older : List DcRecord) → AreReadable pages (newer ++ older)
    → AreReadable pages older
older_readable pages [] older readable = readable
older_readable pages (r ∷ newer) older readable = older_readable pages newer older readable.1

-- numbers that are named rise
named_one : (pages : Pages) (r : DcRecord) (log : List DcRecord) → AreReadable pages (r ∷ log)
    → named log ≤ named (r ∷ log)
named_one pages (Accept session) log readable = omega arith
named_one pages (Split left cut right) log readable = omega (arith, readable.0.1)
named_one pages (Merge left right merged) log readable = omega arith

pub older_named : (pages : Pages) (newer older : List DcRecord) → AreReadable pages (newer ++ older)
    → named older ≤ named (newer ++ older)
older_named pages [] older readable = omega arith
older_named pages (r ∷ newer) older readable =
    omega (arith, older_named pages newer older readable.1, named_one pages r (newer ++ older) readable)

pub first_named : (pages : Pages) (log : List DcRecord) → AreReadable pages log → 1 ≤ named log
first_named pages [] readable = omega arith
first_named pages (r ∷ log) readable =
    omega (arith, first_named pages log readable.1, named_one pages r log readable)
