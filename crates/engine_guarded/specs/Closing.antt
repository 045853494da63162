-- What a node under a lock leaves.
use Rattle.std.specs.Prelude.{◌≡◌, ℕ, false, List}
use Rattle.std.specs.List.{AllByRecursion}
use Rattle.engine_history.specs.Callers.{IsGrown}
use Rattle.engine_history.specs.Kept.{calls_of}
use Rattle.engine_history.specs.Sessions.{calls_by}
use Rattle.engine_history.specs.Steps.{Start}
use Rattle.engine_history.specs.Views.{Sees}
use Rattle.engine_history.specs.declared.step.Step.{Step}
use Rattle.engine_history.specs.node_laws.specs.Node.{NodeView}
use Rattle.engine_guarded.specs.Callers.{CallerView}
use Rattle.engine_guarded.specs.Found.{IsOwned}
use Rattle.engine_guarded.specs.Running.{PassesFrom}

-- a session that isn't amid a call
abbrev pub IsIdle : CallerView → Type 0
IsIdle c = c.busy ≡ false

-- these steps have just the calls that the session has seen; of one that is unfinished more may have been told
pub record HasSeenAll (es : List Step) (c : CallerView) : Type 0 where
  pub sees : Sees (calls_of c.number) c.steps es
  pub grown : IsGrown (calls_by c.number c.steps) (calls_by c.number es)

-- the steps lead from the start to the node, and this caller alone crashed anything or armed a failure
pub record IsLeftBy (start : Start) (sessions : ℕ) (es : List Step) (node : NodeView) : Type 0 where
  pub passes : PassesFrom start es node
  pub owned : AllByRecursion (IsOwned sessions) es
