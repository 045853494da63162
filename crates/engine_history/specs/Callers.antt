-- What is seen of a session: its number, and its calls of the entries that it has seen.
use Rattle.std.specs.Prelude.{◌≡◌, ℕ, true, Option, Some, None}
use Rattle.std.specs.Option.{is_some}
use Rattle.history.specs.ListMachine.{Line}
use Rattle.node_sides.specs.node_laws.specs.declared.event.Out.{Out}
use Rattle.boxcar.specs.Table.{Shelves}
use Rattle.engine_marks.specs.Seen.{Seen}
use Rattle.engine_history.specs.declared.status.CallStatus.{CallStatus}
use Rattle.engine_history.specs.declared.status.CallStatus.TheVariants as status
use Rattle.engine_history.specs.InFlightCalls.{EndsWithFailure, FailsSince}
use Rattle.engine_history.specs.Slots.{Shown}
use Rattle.engine_history.specs.Sessions.{SessionCall, SessionCalls, called_as, call_list, ends, line_to, IsClosed, IsLeft, IsSameCall}

-- a session's number, and its calls in the history
pub record CallerView : Type 0 where
  pub number : ℕ
  pub calls : SessionCalls

-- the same, and what its seat has seen of the marks
pub record SessionView : Type 0 where
  pub number : ℕ
  pub calls : SessionCalls
  pub seat : Seen

-- the same call, of which this line was told
abbrev pub HasLine : Option SessionCall → Option SessionCall → Line → Type 0
HasLine None new line = ⊥
HasLine (Some c) new line = new ≡ Some (called_as c.event c.out (Some line))

-- a line was told of the latest call, by an output that tells it some transaction
pub record IsToldBy (old new : SessionCalls) (o : Out) : Type 0 where
  pub txn : ℕ
  pub line : Line
  pub tells : line_to txn o ≡ Some line
  pub before : new.before ≡ old.before
  pub latest : HasLine old.latest new.latest line
  pub closed : IsClosed new
  pub over : ends line ≡ true → new.live ≡ None

-- nothing was told of the latest call
pub record IsUntold (old new : SessionCalls) : Type 0 where
  pub before : new.before ≡ old.before
  pub latest : new.latest ≡ old.latest

-- nothing was told of it, and its transaction is alive
pub record Awaits (old new : SessionCalls) : Type 0 where
  pub untold : IsUntold old new
  pub live : new.live ≡ old.live
  pub alive : is_some new.live ≡ true

-- a session's calls later on, where the session made no call: of its latest call more may have been told, unless nothing
-- more is told of it, and more of its steps may have failed
pub record IsGrown (old new : SessionCalls) : Type 0 where
  pub before : new.before ≡ old.before
  pub latest : IsSameCall old.latest new.latest
  pub live : IsLeft old.live new.live
  pub failures : FailsSince old.failures new.failures None
  pub closed : IsClosed old → (call_list new ≡ call_list old) × IsClosed new

-- what a session finds that waits for what is told of its latest call
abbrev pub IsStatus : Shelves → SessionCalls → SessionCalls → CallStatus → Type 0
IsStatus entries old new (status.Line p) = Shown entries p × IsToldBy old new p.value.step.value.out
IsStatus entries old new status.CutOff = IsUntold old new × (new.live ≡ None)
IsStatus entries old new (status.Refused f) = Awaits old new × EndsWithFailure old.failures new.failures f
IsStatus entries old new status.Nothing = Awaits old new × FailsSince old.failures new.failures None
