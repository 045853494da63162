-- A session's calls of the entries, in order, each with its output and the first line told of it; and what the
-- steps that were made for the latest of them failed by.
use Rattle.std.specs.Prelude.{◌≡◌, ◌⊎◌, ℕ, ◌==◌, Bool, true, false, cond, List, [], ◌∷◌, ◌++◌, Option, Some, None}
use Rattle.history.specs.History.{is_among}
use Rattle.history.specs.ListMachine.{Line, TellsAnswer, TellsRow, TellsRows, TellsBack, TellsRolledBack, TellsCommitted, TellsLost}
use Rattle.node_sides.specs.node_laws.specs.declared.event.Event.{Event}
use Rattle.node_sides.specs.node_laws.specs.declared.event.Event.TheVariants as event
use Rattle.node_sides.specs.node_laws.specs.declared.event.Out.{Out}
use Rattle.node_sides.specs.node_laws.specs.declared.event.Out.TheVariants as out
use Rattle.engine_history.specs.InFlightCalls.{in_flight_after, in_flight_of, fails, none_in_flight}
use Rattle.engine_history.specs.declared.in_flight.InFlight.{InFlight}
use Rattle.engine_history.specs.declared.failure.Failure.{Failure}
use Rattle.engine_history.specs.declared.step.Step.{Step}
use Rattle.node_sides.specs.node_laws.specs.Halves.{also}

-- a call with what it came to, and the line that was told of it
pub record SessionCall : Type 0 where
  pub event : Event
  pub out : Out
  pub line : Option Line

-- the transaction whose lines are the session's, its calls before the latest, and that one; what is on its way for that,
-- and what its steps failed by, in order
pub record SessionCalls : Type 0 where
  pub live : Option ℕ
  pub before : List SessionCall
  pub latest : Option SessionCall
  pub in_flight : InFlight
  pub failures : List Failure

abbrev pub with_latest : List SessionCall → Option SessionCall → List SessionCall
with_latest before None = before
with_latest before (Some c) = before ++ c ∷ []

-- a session's calls, in order
abbrev pub call_list : SessionCalls → List SessionCall
call_list calls = with_latest calls.before calls.latest

abbrev pub calls_as : Option ℕ → ℕ → Bool
calls_as None s = false
calls_as (Some t) s = t == s

abbrev pub only_if : Bool → Line → Option Line
only_if true line = Some line
only_if false line = None

-- the line that an output tells a transaction, if it tells it one
abbrev pub line_to : ℕ → Out → Option Line
line_to t (out.Answered u a) = only_if (u == t) (TellsAnswer u a)
line_to t (out.Row u value) = only_if (u == t) (TellsRow u value)
line_to t (out.Rows u rows) = only_if (u == t) (TellsRows u rows)
line_to t (out.Back u s) = only_if (u == t) (TellsBack u s)
line_to t (out.RolledBack u) = only_if (u == t) (TellsRolledBack u)
line_to t (out.Lost u) = only_if (u == t) (TellsLost u)
line_to t (out.Stable end committed) = only_if (is_among t committed) (TellsCommitted t)
line_to t (out.Connects i committed) = only_if (is_among t committed) (TellsCommitted t)
line_to t _ = None

abbrev pub line_for : Option ℕ → Out → Option Line
line_for None o = None
line_for (Some t) o = line_to t o

-- a call that came to this is told of later
abbrev pub is_pending : Out → Bool
is_pending (out.Logged n) = true
is_pending (out.Asked n) = true
is_pending out.RollingBack = true
is_pending (out.CommitLogged n) = true
is_pending _ = false

abbrev pub is_untold : Option Line → Bool
is_untold None = true
is_untold (Some line) = false

-- the call is to be told of, and wasn't yet
abbrev pub awaits : SessionCall → Bool
awaits c = cond (is_pending c.out) (is_untold c.line) false

-- only the first line told of a call counts
abbrev pub told : SessionCall → Line → SessionCall
told c line = record { event = c.event; out = c.out; line = cond (awaits c) (Some line) c.line }

abbrev pub told_of : Option SessionCall → Line → Option SessionCall
told_of None line = None
told_of (Some c) line = Some (told c line)

abbrev pub pending : Option SessionCall → Bool
pending None = false
pending (Some c) = awaits c

abbrev pub line_of : Option SessionCall → Option Line
line_of None = None
line_of (Some c) = c.line

abbrev pub live_after : Option ℕ → Out → Option ℕ
live_after live (out.Begun t) = Some t
live_after live _ = live

-- after this line the transaction has ended
abbrev pub ends : Line → Bool
ends (TellsRolledBack t) = true
ends (TellsCommitted t) = true
ends (TellsLost t) = true
ends _ = false

abbrev pub called_as : Event → Out → Option Line → SessionCall
called_as e o line = record { event = e; out = o; line = line }

abbrev pub hears : SessionCalls → Option Line → SessionCalls
hears calls None = calls
hears calls (Some line) = record {
  live = cond (ends line) None calls.live;
  before = calls.before;
  latest = told_of calls.latest line;
  in_flight = calls.in_flight;
  failures = calls.failures;
}

-- a step that was made for the transaction goes on, or fails
abbrev pub worked : SessionCalls → Event → Out → SessionCalls
worked calls e o = record {
  live = calls.live;
  before = calls.before;
  latest = calls.latest;
  in_flight = in_flight_after calls.live calls.in_flight e o;
  failures = also calls.failures (fails calls.live calls.in_flight e o);
}

abbrev pub cut : SessionCalls → SessionCalls
cut calls = record {
  live = None;
  before = calls.before;
  latest = calls.latest;
  in_flight = calls.in_flight;
  failures = calls.failures;
}

-- a crash of the transaction component cuts every session's transaction off
abbrev pub cuts_off : Event → Bool
cuts_off (event.CrashTc frames bytes) = true
cuts_off _ = false

abbrev pub heard : SessionCalls → Event → Out → SessionCalls
heard calls e o = cond (cuts_off e) (cut calls) (hears (worked calls e o) (line_for calls.live o))

abbrev pub called : SessionCalls → Event → Out → SessionCalls
called calls e o = record {
  live = live_after calls.live o;
  before = call_list calls;
  latest = Some (called_as e o None);
  in_flight = in_flight_of o;
  failures = [];
}

-- a session's calls after one more step
abbrev pub next_calls : ℕ → SessionCalls → Step → SessionCalls
next_calls s calls e = cond (calls_as e.caller s) (called calls e.event e.out) (heard calls e.event e.out)

abbrev pub calls_after : ℕ → SessionCalls → List Step → SessionCalls
calls_after s calls [] = calls
calls_after s calls (e ∷ es) = calls_after s (next_calls s calls e) es

abbrev pub no_calls : SessionCalls
no_calls = record { live = None; before = []; latest = None; in_flight = none_in_flight; failures = [] }

abbrev pub calls_by : ℕ → List Step → SessionCalls
calls_by s es = calls_after s no_calls es

-- nothing more is told of the session's calls: its transaction was cut off or has ended, or its latest call awaits
-- nothing
abbrev pub IsClosed : SessionCalls → Type 0
IsClosed calls = (calls.live ≡ None) ⊎ (pending calls.latest ≡ false)

-- a transaction that was a session's still is, or is gone
abbrev pub IsLeft : Option ℕ → Option ℕ → Type 0
IsLeft old new = (new ≡ old) ⊎ (new ≡ None)

-- the same call, of which more may have been told
abbrev pub IsSameCall : Option SessionCall → Option SessionCall → Type 0
IsSameCall None later = later ≡ None
IsSameCall (Some c) later = (line : Option Line) × (later ≡ Some (called_as c.event c.out line))

-- what a call that has its entry came to at once leaves of the transaction
abbrev pub LeavesLive : Option ℕ → Out → SessionCalls → Type 0
LeavesLive was (out.Begun t) new = new.live ≡ Some t
LeavesLive was _ new = IsLeft was new.live

-- a session's calls once one more stands in the history, which came to this at once
pub record IsCalled (old : SessionCalls) (e : Event) (o : Out) (new : SessionCalls) : Type 0 where
  pub before : new.before ≡ call_list old
  pub latest : new.latest ≡ Some (called_as e o None)
  pub live : LeavesLive old.live o new
  pub failures : new.failures ≡ []
