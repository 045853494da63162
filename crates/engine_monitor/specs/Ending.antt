-- How a session's call ended, and what a session knows between two calls.
use Rattle.std.specs.Prelude.{◌≡◌, ℕ, true, false, [], Option, Some, None}
use Rattle.std.specs.Option.{is_some}
use Rattle.engine_guarded.specs.Callers.{CallerView, IsTold}
use Rattle.engine_guarded.specs.Hearing.{as_line}
use Rattle.engine_guarded.specs.declared.status.CallStatus.{CallStatus}
use Rattle.engine_guarded.specs.declared.status.CallStatus.TheVariants as status
use Rattle.engine_guarded.specs.engine_history.specs.Callers.{Awaits, IsUntold}
use Rattle.engine_guarded.specs.engine_history.specs.InFlightCalls.{EndsWithFailure}
use Rattle.engine_guarded.specs.engine_history.specs.Sessions.{IsClosed, LeavesLive, SessionCalls, called_as, is_pending, calls_by}
use Rattle.engine_guarded.specs.engine_history.specs.node_laws.specs.declared.event.Event.{Event}
use Rattle.engine_guarded.specs.engine_history.specs.node_laws.specs.declared.event.Out.{Out}
use Rattle.engine_guarded.specs.engine_answers.specs.Answers.{AddsCall, EndsLive}
use Rattle.engine_monitor.specs.Answering.{sort_in}
use Rattle.engine_monitor.specs.declared.ended.Ended.{Ended}
use Rattle.engine_monitor.specs.declared.ended.Ended.TheVariants as ended
use Rattle.engine_monitor.specs.declared.ended.Unfinished.{Unfinished}
use Rattle.engine_monitor.specs.declared.sort.Sort.{Sort}

-- the calls of the steps that a session's own side has seen
abbrev pub calls_in : CallerView → SessionCalls
calls_in c = calls_by c.number c.steps

-- a call ended so that came to this, by what is new of it
abbrev pub IsEnd : Out → CallStatus → Ended → Type 0
IsEnd o n ended.AtOnce = is_pending o ≡ false
IsEnd o n (ended.Told h) = (is_pending o ≡ true) × (n ≡ status.Told h)
IsEnd o n (ended.Unfinished f) = (is_pending o ≡ true) × (n ≡ status.Refused f)
IsEnd o n ended.CutOff = (is_pending o ≡ true) × (n ≡ status.CutOff)

-- a call that came to this at once was told of, or cut off; or nothing more was to be told of it
abbrev pub Finishes : Out → SessionCalls → Ended → SessionCalls → Type 0
Finishes o old ended.AtOnce new = (is_pending o ≡ false) × (new ≡ old)
Finishes o old (ended.Told h) new = (is_pending o ≡ true) × IsTold old new h
Finishes o old (ended.Unfinished f) new =
    (is_pending o ≡ true) × Awaits old new × EndsWithFailure old.failures new.failures f
Finishes o old ended.CutOff new = (is_pending o ≡ true) × IsUntold old new × (new.live ≡ None)

-- how a call ended that was made, by what it adds to the session's list
abbrev pub Ends : Event → Out → SessionCalls → Ended → SessionCalls → Type 0
Ends e o old ended.AtOnce new = (is_pending o ≡ false) × AddsCall e o None old new × LeavesLive old.live o new
Ends e o old (ended.Told h) new =
    (is_pending o ≡ true)
    × ((t : ℕ) × AddsCall e o (Some (as_line t h)) old new × EndsLive (as_line t h) new)
Ends e o old (ended.Unfinished f) new =
    (is_pending o ≡ true) × (new.live ≡ old.live) × (is_some new.live ≡ true) × AddsCall e o None old new
    × EndsWithFailure [] new.failures f
Ends e o old ended.CutOff new = (is_pending o ≡ true) × (new.live ≡ None) × AddsCall e o None old new

-- the session's latest call is of this sort, came to this, and is unfinished
pub record IsHalfDone (calls : SessionCalls) (sort : Sort) (o : Out) : Type 0 where
  pub event : Event
  pub sort_is : sort_in event ≡ sort
  pub awaited : is_pending o ≡ true
  pub latest : calls.latest ≡ Some (called_as event o None)
  pub alive : is_some calls.live ≡ true

-- which call is unfinished, if one is
abbrev pub IsLeftWith : SessionCalls → Option Unfinished → Out → Type 0
IsLeftWith calls None o = IsClosed calls
IsLeftWith calls (Some u) o = IsHalfDone calls u.sort o

-- what a session knows between two calls
abbrev pub IsBetweenCalls : CallerView → Option Unfinished → Out → Type 0
IsBetweenCalls c u o = (c.busy ≡ false) × IsLeftWith (calls_in c) u o

-- the call that is left unfinished
abbrev pub left_by : ℕ → Sort → Ended → Option Unfinished
left_by t s (ended.Unfinished f) = Some (record { txn = t; sort = s })
left_by t s _ = None

-- how an unfinished call of this sort went on, that came to this
pub record Resumes (sort : Sort) (o : Out) (old : SessionCalls) (how : Ended) (new : SessionCalls) : Type 0 where
  pub was : IsHalfDone old sort o
  pub finishes : Finishes o old how new
