-- What lies under the lock.
use Rattle.std.specs.Prelude.{◌≡◌, ◌⊎◌, ◌≤◌, ◌+◌, ℕ, true, Some, List, length}
use Rattle.record_key.specs.declared.refusal.Refusal.{Refusal}
use Rattle.record_key.specs.declared.refusal.Refusal.TheVariants.{NoMemory, Device, NumbersSpent}
use Rattle.std.specs.List.{AllByRecursion}
use Rattle.boxcar.specs.Table.{Shelves}
use Rattle.engine_history.specs.Commands.{is_command}
use Rattle.engine_history.specs.Marking.{announced}
use Rattle.engine_history.specs.declared.step.Step.{Step}
use Rattle.engine_history.specs.node_laws.specs.Node.{NodeView}
use Rattle.engine_history.specs.Steps.{Start}
use Rattle.engine_guarded.specs.declared.place.Place.{Place}
use Rattle.engine_guarded.specs.Places.{PlacesKept}
use Rattle.engine_guarded.specs.Running.{PassesFrom}

-- the steps, and the node that they leave
pub record Found : Type 0 where
  pub steps : List Step
  pub node : NodeView

-- whoever crashes a component or arms a failure is this caller
abbrev pub IsOwned : ℕ → Step → Type 0
IsOwned owner e = is_command e.event ≡ true → e.caller ≡ Some owner

-- the steps lead from the start to the node, and each session has its place; the last place is the engine's own, and it
-- alone crashes anything or arms a failure; and the number is the greatest one that was announced, and is stable
pub record IsGuarded (start : Start) (entries : Shelves) (names : ℕ → ℕ) (sessions : ℕ) (es : List Step) (node : NodeView)
    (places : List Place) (low : ℕ) : Type 0 where
  pub passes : PassesFrom start es node
  pub places_are : PlacesKept entries names es places
  pub count : length places ≡ sessions + 1
  pub owned : AllByRecursion (IsOwned sessions) es
  pub low_is : low ≡ announced es
  pub low_stable : low ≤ node.tc.stable

-- the components can't be brought up now
abbrev pub IsOutage : Refusal → Type 0
IsOutage r = (r ≡ NoMemory) ⊎ ((r ≡ Device) ⊎ (r ≡ NumbersSpent))
