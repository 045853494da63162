-- How a session's transaction begins.
use Rattle.std.specs.Prelude.{◌≡◌, ℕ, false, List, [], ◌∷◌, ◌++◌, Some, None}
use Rattle.boxcar.specs.Table.{Shelves}
use Rattle.engine_guarded.specs.Running.{made}
use Rattle.engine_guarded.specs.Slots.{Slot, Shown, seen}
use Rattle.engine_guarded.specs.engine_history.specs.Sessions.{is_pending, calls_by}
use Rattle.engine_guarded.specs.engine_history.specs.declared.step.Step.{Step}
use Rattle.engine_guarded.specs.engine_history.specs.node_laws.specs.declared.event.Event.TheVariants as event
use Rattle.engine_guarded.specs.engine_history.specs.node_laws.specs.declared.event.Out.{Out}

-- a session's Begin that came to this was made where no transaction of the session was alive; where nothing more is told
-- of it, it is the last step that the session has seen
pub record BeginsAlone (session : ℕ) (o : Out) (steps : List Step) : Type 0 where
  pub before : List Step
  pub none : (calls_by session before).live ≡ None
  pub last : is_pending o ≡ false → steps ≡ before ++ made (Some session) event.Begin o ∷ []

-- there is an entry at the end of such a call
pub record ShowsBegin (entries : Shelves) (session : ℕ) (o : Out) : Type 0 where
  pub entry : Slot
  pub shown : Shown entries entry
  pub begins : BeginsAlone session o (seen entry)
