-- What the engine alone does to a node: crashes, and failures that it sets.
use Rattle.std.specs.Prelude.{◌≡◌, ℕ, Bool, true, false, List, filter}
use Rattle.node_sides.specs.node_laws.specs.declared.event.Event.{Event}
use Rattle.node_sides.specs.node_laws.specs.declared.event.Event.TheVariants as event
use Rattle.engine_history.specs.declared.step.Step.{Step}
use Rattle.engine_history.specs.Steps.{events}
use Rattle.engine_history.specs.Views.{View, Sees}

-- a component crashes, or a call of a device is to fail
abbrev pub is_command : Event → Bool
is_command (event.CrashTc frames bytes) = true
is_command (event.CrashDc frames bytes) = true
is_command (event.FailTc call) = true
is_command (event.FailDc device call) = true
is_command _ = false

abbrev pub commands_it : Step → Bool
commands_it e = is_command e.event

-- the crashes and the failures that were set, in order
abbrev pub commands : List Step → List Event
commands es = events (filter commands_it es)

-- the history's side of what the engine itself has seen: all of these
pub record OwnKept (names : ℕ → ℕ) (es : List Step) (own : View) : Type 0 where
  pub name : own.name ≡ names 2
  pub sees : Sees commands_it own.steps es
