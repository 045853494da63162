-- What is seen of a session's own side, and what it finds of its latest call.
use Rattle.std.specs.Prelude.{◌≡◌, ◌⊎◌, ◌≤◌, ℕ, ◌+◌, zero, suc, Bool, true, false, List, [], None, Some}
use Rattle.std.specs.Option.{is_some}
use Rattle.boxcar.specs.Table.{Shelves}
use Rattle.engine_agreement.specs.Agreed.{Agreed}
use Rattle.engine_history.specs.declared.step.Step.{Step}
use Rattle.engine_history.specs.Callers.{Awaits, HasLine, IsUntold}
use Rattle.engine_history.specs.InFlightCalls.{EndsWithFailure, FailsSince}
use Rattle.engine_history.specs.Kept.{calls_of}
use Rattle.engine_history.specs.Sessions.{IsCalled, IsClosed, SessionCalls, ends, is_pending, line_of, calls_by}
use Rattle.engine_history.specs.node_laws.specs.declared.event.Event.{Event}
use Rattle.engine_history.specs.node_laws.specs.declared.event.Out.{Out}
use Rattle.engine_history.specs.Views.{Sees}
use Rattle.engine_guarded.specs.declared.heard.Heard.{Heard}
use Rattle.engine_guarded.specs.declared.status.CallStatus.{CallStatus}
use Rattle.engine_guarded.specs.declared.place.Place.{Place}
use Rattle.engine_guarded.specs.declared.status.CallStatus.TheVariants as status
use Rattle.engine_guarded.specs.Hearing.{as_line}
use Rattle.engine_guarded.specs.Slots.{Slot, Shown, seen}

-- a session's number, the steps up to the last entry that it has seen, and whether it is amid a call
pub record CallerView : Type 0 where
  pub number : ℕ
  pub steps : List Step
  pub busy : Bool

-- the agreement's number is 0 amid a call
abbrev pub is_busy : ℕ → Bool
is_busy zero = true
is_busy (suc n) = false

abbrev pub caller_of : ℕ → Agreed → Slot → CallerView
caller_of number mark last = record { number = number; steps = seen last; busy = is_busy mark.number }

-- and else one more than the index of the last entry that it has seen
pub record CallerKept (entries : Shelves) (names : ℕ → ℕ) (sessions number : ℕ) (mark : Agreed) (last : Slot) : Type 0 where
  pub within : number ≤ sessions
  pub name : mark.name ≡ names (number + 2)
  pub shown : Shown entries last
  pub agreed : (mark.number ≡ 0) ⊎ (mark.number ≡ last.index + 1)

-- this was told of the latest call
pub record IsTold (old new : SessionCalls) (h : Heard) : Type 0 where
  pub txn : ℕ
  pub before : new.before ≡ old.before
  pub latest : HasLine old.latest new.latest (as_line txn h)
  pub closed : IsClosed new
  pub over : ends (as_line txn h) ≡ true → new.live ≡ None

-- what a session finds of its latest call, of which nothing was told before
abbrev pub IsStatus : SessionCalls → SessionCalls → CallStatus → Type 0
IsStatus old new (status.Told h) = IsTold old new h
IsStatus old new status.CutOff = IsUntold old new × (new.live ≡ None)
IsStatus old new (status.Refused f) = Awaits old new × EndsWithFailure old.failures new.failures f
IsStatus old new status.Nothing = Awaits old new × FailsSince old.failures new.failures None

-- what a place has for its session
abbrev pub IsStatusOf : Place → CallStatus → Type 0
IsStatusOf p (status.Told h) = p.line ≡ Some h
IsStatusOf p status.CutOff = (p.line ≡ None) × (p.live ≡ None)
IsStatusOf p (status.Refused f) = (p.line ≡ None) × (is_some p.live ≡ true) × (p.failed ≡ Some f)
IsStatusOf p status.Nothing = (p.line ≡ None) × (is_some p.live ≡ true) × (p.failed ≡ None)

-- a call was made right before these steps, and the session has made none since
pub record IsMade (s : ℕ) (before now : List Step) : Type 0 where
  pub sees : Sees (calls_of s) before now
  pub untold : line_of (calls_by s before).latest ≡ None
  pub fresh : (calls_by s before).failures ≡ []

-- what became of a call that came to this at once: nothing more, or this is what its session finds
pub record Follows (o : Out) (mid : SessionCalls) (n : CallStatus) (new : SessionCalls) : Type 0 where
  pub awaited : is_pending o ≡ true → IsStatus mid new n
  pub done : is_pending o ≡ false → new ≡ mid

-- a call that was made where the calls were the old ones
pub record CallsWith (e : Event) (o : Out) (old : SessionCalls) (n : CallStatus) (new : SessionCalls) : Type 0 where
  pub mid : SessionCalls
  pub called : IsCalled old e o mid
  pub follows : Follows o mid n new

-- no transaction is alive any more, and nothing was told since
pub record IsCut (old new : SessionCalls) : Type 0 where
  pub live : new.live ≡ None
  pub line : line_of new.latest ≡ line_of old.latest
