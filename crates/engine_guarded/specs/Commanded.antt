-- What the engine itself does to a node.
use Rattle.std.specs.Prelude.{◌≡◌, ◌++◌, ◌∷◌, ℕ, true, false, [], Some}
use Rattle.engine_history.specs.Commands.{commands}
use Rattle.engine_history.specs.node_laws.specs.Component.{LeavesBytes}
use Rattle.engine_history.specs.node_laws.specs.Stepping.{IsStep}
use Rattle.engine_history.specs.node_laws.specs.declared.event.Event.{Event}
use Rattle.engine_history.specs.node_laws.specs.declared.event.Event.TheVariants as event
use Rattle.engine_history.specs.node_laws.specs.declared.event.Out.{Out}
use Rattle.engine_guarded.specs.Callers.{CallerView}
use Rattle.engine_guarded.specs.Found.{Found}
use Rattle.engine_guarded.specs.Running.{made}

-- the engine made this step and no other, and has seen it; its commands before were just those that it had seen
pub record Commanded (sessions : ℕ) (old : Found) (own : CallerView) (e : Event) (o : Out) (new : Found)
    (later : CallerView) : Type 0 where
  pub steps : new.steps ≡ old.steps ++ made (Some sessions) e o ∷ []
  pub node : IsStep old.node e o new.node
  pub own_is : later ≡ record { number = sessions; steps = new.steps; busy = false }
  pub given : commands later.steps ≡ commands own.steps ++ e ∷ []

-- so the transaction component crashed, and so many bytes are left of what wasn't stable of its log, or all of it
pub record CrashesTc (sessions kept : ℕ) (old : Found) (own : CallerView) (o : Out) (new : Found) (later : CallerView)
    : Type 0 where
  pub frames : ℕ
  pub bytes : ℕ
  pub commanded : Commanded sessions old own (event.CrashTc frames bytes) o new later
  pub leaves : old.node.tc_up ≡ true → LeavesBytes old.node.tc kept frames bytes
