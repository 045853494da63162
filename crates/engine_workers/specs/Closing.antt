-- What an engine begins with, and what it leaves.
use Rattle.std.specs.Prelude.{◌≡◌, ℕ, ◌≤◌, List, Option, map}
use Rattle.std.specs.Global.{Vec}
use Rattle.record_key.specs.Table.{Bytes}
use Rattle.atomic_table.specs.Seated.{TableId}
use Rattle.engine_marks.specs.Seen.{reader}
use Rattle.node_world.specs.node_laws.specs.Node.{NodeView, dc_side}
use Rattle.engine_workers.specs.declared.session_states.SessionState.{SessionState}
use Rattle.engine_sessions.specs.engine_history.specs.Ending.{IsRowsOf, LeavesNode}
use Rattle.engine_sessions.specs.engine_history.specs.Steps.{Start}
use Rattle.engine_sessions.specs.engine_history.specs.declared.step.Step.{Step}
use Rattle.engine_sessions.specs.engine_history.specs.Callers.{CallerView, SessionView, IsGrown}
use Rattle.engine_sessions.specs.engine_history.specs.Sessions.{calls_by, no_calls}

abbrev pub IsFreshState : {J : Type 0} → TableId → SessionState J → Type 0
IsFreshState marks s = (s.caller.calls ≡ no_calls) × (s.seat ≡ reader marks 0 0)

abbrev pub numbers_in : {J : Type 0} → List (SessionState J) → List ℕ
numbers_in ss = map (λ s. s.caller.number) ss

-- a session's side of the history, and how far it has seen the log stable
abbrev pub seen_of : SessionView → CallerView × ℕ
seen_of s = (record { number = s.number; calls = s.calls }, s.seat.stable)

abbrev pub seen_as : List SessionView → List (CallerView × ℕ)
seen_as ss = map seen_of ss

abbrev pub seen_by : {J : Type 0} → List (SessionState J) → List (CallerView × ℕ)
seen_by ss = map (λ s. (s.caller, s.seat.stable)) ss

abbrev pub IsAtMarks : {J : Type 0} → TableId → SessionState J → Type 0
IsAtMarks marks s = s.seat.marks ≡ marks

-- the session's calls of these steps are just those that it knows of; of one that is unfinished more may have been
-- told. And it hasn't seen the log stable further than it is
abbrev pub IsCovered : List Step → ℕ → CallerView × ℕ → Type 0
IsCovered es stable s = IsGrown s.0.calls (calls_by s.0.number es) × (s.1 ≤ stable)

-- the history, and the node at its end with its records
pub record ClosedView : Type 0 where
  pub steps : List Step
  pub rows : Option (Vec (Bytes × Bytes))
  pub node : NodeView

-- some run of the node through these steps leaves it so, and these are its records, where its data component runs
pub record IsLeftBy (start : Start) (steps : List Step) (rows : Option (Vec (Bytes × Bytes))) (node : NodeView)
    : Type 0 where
  pub leaves : LeavesNode start steps node
  pub rows_are : IsRowsOf (dc_side node) rows
