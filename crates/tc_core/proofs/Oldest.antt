-- The first that passes by rising numbers is the oldest.
use Rattle.std.proofs.Common.{◌≡◌, ℕ, ◌+◌, ◌<◌, Bool, true, List, [], ◌∷◌, ◌++◌, length, drop, get_or, Option, Some, None, refl, sym, ap, ◌∙◌}
use Rattle.std.specs.Prelude.{if◌then◌else◌}
use Rattle.std.proofs.lemmas.List.{at_drop_more}
use Rattle.slab.specs.Slab.{Slab, get}
use Rattle.tc_core.specs.declared.open_txn.OpenTxn.{OpenTxn}
use Rattle.tc_core.specs.OpenTxns.{oldest, unless}
use Rattle.tc_core.specs.Slots.{listed, in_slots}
use Rattle.tc_core.proofs.InSlots.{unless_none}

unless_twice : (a b c : Option OpenTxn) → unless (unless a b) c ≡ unless a (unless b c)
unless_twice None b c = refl
unless_twice (Some o) b c = refl

module _ (test : OpenTxn → Bool) where
  oldest_in_both : (xs ys : List OpenTxn) → oldest test (xs ++ ys) ≡ unless (oldest test ys) (oldest test xs)
  oldest_in_both [] ys = sym (unless_none (oldest test ys))
  oldest_in_both (x ∷ xs) ys =
      ap (λ o. unless o (if test x then Some x else None)) (oldest_in_both xs ys)
      ∙ unless_twice (oldest test ys) (oldest test xs) (if test x then Some x else None)

  module _ (slab : Slab OpenTxn) (es : List (ℕ × ℕ)) (i : ℕ) (inside : i < length es) where
    first_slot : oldest test (in_slots slab (drop i es))
        ≡ unless (oldest test (listed (get slab (get_or es i (0, 0)).1))) (oldest test (in_slots slab (drop (i + 1) es)))
    first_slot =
        at_drop_more (λ xs. oldest test (in_slots slab xs)) es i (0, 0) inside
        ∙ oldest_in_both (in_slots slab (drop (i + 1) es)) (listed (get slab (get_or es i (0, 0)).1))

    pub oldest_here : (o : OpenTxn) → get slab (get_or es i (0, 0)).1 ≡ Some o → test o ≡ true
        → oldest test (in_slots slab (drop i es)) ≡ Some o
    oldest_here o held passes = first_slot ∙ rw (held, passes) refl

    pub oldest_later : (o : Option OpenTxn) → get slab (get_or es i (0, 0)).1 ≡ o → oldest test (listed o) ≡ None
        → oldest test (in_slots slab (drop i es)) ≡ oldest test (in_slots slab (drop (i + 1) es))
    oldest_later o held fails = first_slot ∙ rw (held, fails) refl
