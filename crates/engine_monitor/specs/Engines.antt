-- What an engine shows of its own calls, and what it leaves.
use Rattle.std.specs.Prelude.{◌≡◌, ℕ, ◌+◌, ◌≤◌, true, false, List, [], ◌∷◌, ◌++◌, Some, map}
use Rattle.atomic_table.specs.Seated.{TableId}
use Rattle.boxcar.specs.Table.{Shelves}
use Rattle.engine_marks.specs.Seen.{reader}
use Rattle.engine_guarded.specs.Callers.{CallerView}
use Rattle.engine_guarded.specs.Running.{PassesFrom, made}
use Rattle.engine_guarded.specs.Slots.{Slot, Shown, seen}
use Rattle.engine_guarded.specs.engine_history.specs.Callers.{IsGrown, SessionView}
use Rattle.engine_guarded.specs.engine_history.specs.Commands.{commands}
use Rattle.engine_guarded.specs.engine_history.specs.Sessions.{SessionCalls, calls_by, no_calls}
use Rattle.engine_guarded.specs.engine_history.specs.Steps.{Start}
use Rattle.engine_guarded.specs.engine_history.specs.declared.step.Step.{Step}
use Rattle.engine_guarded.specs.engine_history.specs.node_laws.specs.Component.{LeavesBytes}
use Rattle.engine_guarded.specs.engine_history.specs.node_laws.specs.Node.{NodeView}
use Rattle.engine_guarded.specs.engine_history.specs.node_laws.specs.Rounds.{AreRunning}
use Rattle.engine_guarded.specs.engine_history.specs.node_laws.specs.declared.event.Event.{Event}
use Rattle.engine_guarded.specs.engine_history.specs.node_laws.specs.declared.event.Event.TheVariants as event
use Rattle.engine_guarded.specs.engine_history.specs.node_laws.specs.declared.event.Out.{Out}
use Rattle.engine_monitor.specs.Ending.{calls_in}
use Rattle.engine_monitor.specs.declared.session_states.SessionState.{SessionState}

-- what an engine keeps of its own side: it isn't amid a call
pub record IsOperator (sessions : ℕ) (own : CallerView) : Type 0 where
  pub number : own.number ≡ sessions
  pub rest : own.busy ≡ false

-- there is an entry at the end of the engine's step; by then it had given these commands, and this one
pub record IsEntered (entries : Shelves) (sessions : ℕ) (given : List Event) (e : Event) (o : Out) (before : List Step)
    : Type 0 where
  pub entry : Slot
  pub shown : Shown entries entry
  pub steps : seen entry ≡ before ++ made (Some sessions) e o ∷ []
  pub after : commands (seen entry) ≡ given ++ e ∷ []

-- so such a command was given
pub record HasCommanded (entries : Shelves) (sessions : ℕ) (given : List Event) (e : Event) : Type 0 where
  pub out : Out
  pub before : List Step
  pub entered : IsEntered entries sessions given e out before

-- the next command was a crash of the transaction component, by this entry, and so many bytes are left of what wasn't
-- stable of its log
pub record LeftBytes (start : Start) (entries : Shelves) (sessions kept : ℕ) (old new : List Event) : Type 0 where
  pub frames : ℕ
  pub bytes : ℕ
  pub given : new ≡ old ++ event.CrashTc frames bytes ∷ []
  pub out : Out
  pub before : List Step
  pub entered : IsEntered entries sessions old (event.CrashTc frames bytes) out before
  pub node : NodeView
  pub passes : PassesFrom start before node
  pub leaves : node.tc_up ≡ true → LeavesBytes node.tc kept frames bytes

-- both components ran in one session, up to an entry, after just these commands
pub record WereUp (start : Start) (entries : Shelves) (given : List Event) : Type 0 where
  pub entry : Slot
  pub shown : Shown entries entry
  pub node : NodeView
  pub passes : PassesFrom start (seen entry) node
  pub running : AreRunning node
  pub after : commands (seen entry) ≡ given

-- a session that has made no call, and has seen nothing of the marks
abbrev pub IsFreshState : {J : Type 0} → TableId → SessionState J → Type 0
IsFreshState marks s = (s.caller.busy ≡ false) × (calls_in s.caller ≡ no_calls) × (s.known ≡ reader marks 0 0)

abbrev pub numbers_in : {J : Type 0} → List (SessionState J) → List ℕ
numbers_in ss = map (λ s. s.caller.number) ss

-- the session's calls of these steps are just those that it knows of; of one that is unfinished more may have been told
abbrev pub IsCovered : List Step → SessionView → Type 0
IsCovered es s = IsGrown s.calls (calls_by s.number es)

-- what each has of its calls: the number of its session, and those of the steps that it has seen
abbrev pub callers_in : List CallerView → List (ℕ × SessionCalls)
callers_in cs = map (λ (c : CallerView). (c.number, calls_in c)) cs

abbrev pub callers_as : List SessionView → List (ℕ × SessionCalls)
callers_as ss = map (λ (s : SessionView). (s.number, s.calls)) ss
