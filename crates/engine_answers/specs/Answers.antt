-- What a session's calls answer, by what they add to its list.
use Rattle.std.specs.Prelude.{◌≡◌, ◌⊎◌, ℕ, Bool, true, false, [], ◌∷◌, ◌++◌, Option, Some, None, ⊤}
use Rattle.history.specs.ListMachine.{Line}
use Rattle.record_key.specs.declared.refusal.Refusal.{Refusal}
use Rattle.record_key.specs.declared.refusal.Refusal.TheVariants.{NotOpen, NotConnected, Full}
use Rattle.std.specs.Option.{is_some}
use Rattle.engine_history.specs.node_laws.specs.declared.event.Event.{Event}
use Rattle.engine_history.specs.node_laws.specs.declared.event.Event.TheVariants as event
use Rattle.engine_history.specs.node_laws.specs.declared.event.Out.{Out}
use Rattle.engine_history.specs.node_laws.specs.declared.event.Out.TheVariants as out
use Rattle.boxcar.specs.Table.{Shelves}
use Rattle.engine_answers.specs.declared.ended.Ended.{Ended}
use Rattle.engine_answers.specs.declared.ended.Ended.TheVariants as ended
use Rattle.engine_answers.specs.Asking.{is_answered}
use Rattle.engine_history.specs.Sessions.{IsCalled, LeavesLive, SessionCall, SessionCalls, called_as, call_list, ends, is_pending, line_to, calls_by}
use Rattle.engine_history.specs.Callers.{Awaits, IsToldBy, IsUntold}
use Rattle.engine_history.specs.InFlightCalls.{EndsWithFailure}
use Rattle.engine_history.specs.Failing.{refusal_of}
use Rattle.engine_history.specs.Slots.{Slot, Shown}
use Rattle.engine_answers.specs.Unfinished.{IsUnfinished, bar}
use Rattle.engine_answers.specs.Why.{IsWhy, why_of}

-- one call more, with what it came to and the line that was told of it
abbrev pub AddsCall : Event → Out → Option Line → SessionCalls → SessionCalls → Type 0
AddsCall e o line old new = call_list new ≡ call_list old ++ called_as e o line ∷ []

-- the same of a call of the transaction that is alive
abbrev pub AddsLiveCall : (ℕ → Event) → Out → Option Line → SessionCalls → SessionCalls → Type 0
AddsLiveCall of o line old new = (t : ℕ) × (old.live ≡ Some t) × AddsCall (of t) o line old new

-- a call with an entry that is refused, since it wasn't answered
pub record Refused (e : Event) (was : Option ℕ) (old : SessionCalls) (r : Refusal) (new : SessionCalls) : Type 0 where
  pub call : SessionCall
  pub event : call.event ≡ e
  pub adds : call_list new ≡ call_list old ++ call ∷ []
  pub unanswered : is_answered call ≡ false
  pub why : IsWhy call was r new

-- there is no entry, since no transaction is alive
abbrev pub IsUnasked : SessionCalls → SessionCalls → Type 0
IsUnasked old new = (call_list new ≡ call_list old) × (new.live ≡ None)

-- nor as long as an earlier call is unfinished
pub record IsBarred (old : SessionCalls) (r : Refusal) (new : SessionCalls) : Type 0 where
  pub unfinished : IsUnfinished old
  pub why : r ≡ bar old.latest
  pub same : new ≡ old

abbrev pub IsUncalled : SessionCalls → Refusal → SessionCalls → Type 0
IsUncalled old r new = ((r ≡ NotOpen) × IsUnasked old new) ⊎ IsBarred old r new

abbrev pub RefusedCall : (ℕ → Event) → SessionCalls → Refusal → SessionCalls → Type 0
RefusedCall of old r new =
    IsUncalled old r new ⊎ ((t : ℕ) × (old.live ≡ Some t) × Refused (of t) old.live old r new)

-- of the call that begins a transaction there is no entry where one is alive
abbrev pub IsSecond : SessionCalls → SessionCalls → Type 0
IsSecond old new = (call_list new ≡ call_list old) × (is_some new.live ≡ true)

abbrev pub RefusedBegin : SessionCalls → Refusal → SessionCalls → Type 0
RefusedBegin old r new = ((r ≡ Full) × IsSecond old new) ⊎ Refused event.Begin old.live old r new

-- after such a line no transaction is alive
abbrev pub EndsLive : Line → SessionCalls → Type 0
EndsLive line new = ends line ≡ true → new.live ≡ None

-- the call stands in the history, and nothing was told of it yet
pub record CallsUntold (entries : Shelves) (e : Event) (old : SessionCalls) (token : Slot) (new : SessionCalls) : Type 0 where
  pub shown : Shown entries token
  pub event : token.value.step.value.event ≡ e
  pub called : IsCalled old e token.value.step.value.out new

-- the entry of a session's Begin, right before which no transaction of the session was alive
pub record BeginsAlone (session : ℕ) (token : Slot) : Type 0 where
  pub event : token.value.step.value.event ≡ event.Begin
  pub own : token.value.step.value.caller ≡ Some session
  pub none : (calls_by session token.value.before.steps).live ≡ None

-- a Begin that ended at once did so
abbrev pub BeganAlone : ℕ → Ended → Type 0
BeganAlone session (ended.AtOnce p) = BeginsAlone session p
BeganAlone session _ = ⊤

-- the entries show such a one, which was answered this number
pub record ShowsBegun (entries : Shelves) (session txn : ℕ) : Type 0 where
  pub token : Slot
  pub shown : Shown entries token
  pub begins : BeginsAlone session token
  pub out : token.value.step.value.out ≡ out.Begun txn

-- how a call with an entry ended, by what it adds to the session's list
abbrev pub Ends : Shelves → Event → SessionCalls → Ended → SessionCalls → Type 0
Ends entries e old (ended.AtOnce p) new =
    Shown entries p × (is_pending p.value.step.value.out ≡ false) × AddsCall e p.value.step.value.out None old new
    × LeavesLive old.live p.value.step.value.out new
Ends entries e old (ended.Told p q) new =
    Shown entries p × Shown entries q × (is_pending p.value.step.value.out ≡ true)
    × ((t : ℕ) × ((line : Line) × (line_to t q.value.step.value.out ≡ Some line) × EndsLive line new
    × AddsCall e p.value.step.value.out (Some line) old new))
Ends entries e old (ended.Unfinished u f) new =
    (is_pending u.call.value.step.value.out ≡ true) × (new.live ≡ old.live) × (is_some new.live ≡ true)
    × AddsCall e u.call.value.step.value.out None old new × EndsWithFailure [] new.failures f
Ends entries e old ended.CutOff new =
    (o : Out) × (is_pending o ≡ true) × (new.live ≡ None) × AddsCall e o None old new

-- the tokens that it names are of entries
abbrev pub AreShown : Shelves → Ended → Type 0
AreShown entries (ended.AtOnce p) = Shown entries p
AreShown entries (ended.Told p q) = Shown entries p × Shown entries q
AreShown entries (ended.Unfinished u f) = ⊤
AreShown entries ended.CutOff = ⊤

-- why it is refused, where neither its entry nor what was told of it answers it
abbrev pub IsRefusalOf : (Out → Bool) → (Out → Out → Bool) → Ended → Refusal → Type 0
IsRefusalOf done told (ended.AtOnce p) r = (r ≡ why_of p.value.step.value.out) × (done p.value.step.value.out ≡ false)
IsRefusalOf done told (ended.Told p q) r = (r ≡ NotConnected) × (told p.value.step.value.out q.value.step.value.out ≡ false)
IsRefusalOf done told (ended.Unfinished u f) r = r ≡ refusal_of f
IsRefusalOf done told ended.CutOff r = r ≡ NotConnected

-- it came to this, and was told of by that
abbrev pub IsToldAs : (Out → Type 0) → (Out → Type 0) → Ended → Type 0
IsToldAs IsCall IsLine (ended.Told p q) = IsCall p.value.step.value.out × IsLine q.value.step.value.out
IsToldAs IsCall IsLine _ = ⊥

-- it came to this at once
abbrev pub IsAtOnce : Out → Ended → Type 0
IsAtOnce o (ended.AtOnce p) = p.value.step.value.out ≡ o
IsAtOnce o _ = ⊥

-- what it tells a transaction is that it has committed
abbrev pub TellsCommit : Out → Type 0
TellsCommit (out.Stable end committed) = ⊤
TellsCommit (out.Connects i committed) = ⊤
TellsCommit _ = ⊥

-- a call that has its entry was told of, or cut off; or nothing more was to be told of it
abbrev pub Finishes : Shelves → Slot → SessionCalls → Ended → SessionCalls → Type 0
Finishes entries token old (ended.AtOnce p) new =
    Shown entries p × (p ≡ token) × (is_pending token.value.step.value.out ≡ false) × (new ≡ old)
Finishes entries token old (ended.Told p q) new =
    Shown entries p × (p ≡ token) × Shown entries q × (is_pending token.value.step.value.out ≡ true)
    × IsToldBy old new q.value.step.value.out
Finishes entries token old (ended.Unfinished u f) new =
    (u.call ≡ token) × (is_pending token.value.step.value.out ≡ true) × Awaits old new
    × EndsWithFailure old.failures new.failures f
Finishes entries token old ended.CutOff new =
    (is_pending token.value.step.value.out ≡ true) × (new.live ≡ None) × IsUntold old new
