-- How far redo has come.
use Rattle.std.specs.Prelude.{◌≡◌, ℕ, Bool}
use Rattle.tc_core.specs.declared.phase.Phase.{Phase}
use Rattle.tc_core.specs.declared.phase.Phase.TheVariants as phase

-- redo goes on from this number
abbrev pub IsRedoing : Phase → ℕ → Type 0
IsRedoing p next = (ending : Bool) × (p ≡ phase.Redoing next ending)
