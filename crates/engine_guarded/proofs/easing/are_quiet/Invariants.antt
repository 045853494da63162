use Rattle.std.proofs.Common.{◌≡◌, ◌<◌, ℕ, Some, false, slice_get}
use Rattle.engine_guarded.specs.declared.place.Place.{Place}
use Rattle.engine_guarded.specs.Quiet.{waits}
use Rattle.engine_guarded.proofs.easing.are_quiet.Given as goal

-- none of those so far waits
abbrev pub invariant-loop-place : goal.invariant-loop-place
invariant-loop-place l =
    (k : ℕ) (p : Place) → k < l.place-index → slice_get l.places k ≡ Some p → waits p ≡ false
