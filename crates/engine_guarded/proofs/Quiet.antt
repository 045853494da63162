-- Where no place waits for a message, no session does.
use Rattle.std.proofs.Common.{◌≡◌, ◌+◌, ◌∙◌, ℕ, false, List, Some, arith, length, slice_get, sym, inl, inr}
use Rattle.std.proofs.lemmas.Option.{slice_get_cases}
use Rattle.boxcar.specs.Table.{Shelves}
use Rattle.engine_history.specs.declared.step.Step.{Step}
use Rattle.engine_guarded.specs.declared.place.Place.{Place}
use Rattle.engine_guarded.specs.Places.{PlacesKept}
use Rattle.engine_guarded.specs.Quiet.{AreQuiet, waits, waits_with}

pub all_quiet : (entries : Shelves) (names : ℕ → ℕ) (n : ℕ) (es : List Step) (places : List Place) → PlacesKept entries names es places
    → length places ≡ n + 1 → ((k : ℕ) (p : Place) → slice_get places k ≡ Some p → waits p ≡ false) → AreQuiet n es
all_quiet entries names n es places kept count none s within =
    elim (slice_get_cases places s).1 [
      | inl (p, less, at, is) ↦
          let k = kept s p at in
          (λ i. waits_with (sym k.live i) (sym k.awaits i) (sym k.in_flight i)) ∙ none s p at
      | inr (past, gone) ↦ absurd (omega (arith, within, count, past))
    ]
