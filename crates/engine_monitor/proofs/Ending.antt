-- How a call ends that was made.
use Rattle.std.proofs.Common.{◌≡◌, ℕ, Bool, true, false, cond, List, [], ◌∷◌, ◌++◌, Option, Some, None, ap, sym, ◌∙◌, subst, inl, inr, append_assoc}
use Rattle.engine_guarded.specs.declared.heard.Heard.{Heard}
use Rattle.engine_guarded.specs.declared.status.CallStatus.{CallStatus}
use Rattle.engine_guarded.specs.declared.status.CallStatus.TheVariants as status
use Rattle.engine_guarded.specs.Callers.{Follows, IsStatus, IsTold}
use Rattle.engine_guarded.specs.Hearing.{as_line}
use Rattle.engine_guarded.specs.engine_history.specs.Callers.{Awaits, HasLine, IsUntold}
use Rattle.engine_guarded.specs.engine_history.specs.InFlightCalls.{EndsWithFailure, FailsSince}
use Rattle.engine_guarded.specs.engine_history.specs.Sessions.{SessionCalls, SessionCall, called_as, is_pending, is_untold, line_of, pending}
use Rattle.engine_guarded.specs.engine_history.specs.declared.failure.Failure.{Failure}
use Rattle.engine_guarded.specs.engine_history.specs.node_laws.specs.declared.event.Event.{Event}
use Rattle.engine_guarded.specs.engine_history.specs.node_laws.specs.declared.event.Out.{Out}
use Rattle.engine_monitor.specs.Answering.{sort_in}
use Rattle.engine_monitor.specs.Ending.{Finishes, IsEnd, IsLeftWith, left_by}
use Rattle.engine_monitor.specs.declared.ended.Ended.{Ended}
use Rattle.engine_monitor.specs.declared.ended.Ended.TheVariants as ended
use Rattle.engine_monitor.specs.declared.sort.Sort.{Sort}

-- ---- what is new of a call that goes on

-- of what was untold before this is told
on_told : (old mid new : SessionCalls) (h : Heard) → IsUntold old mid → IsTold mid new h → IsTold old new h
on_told old mid new h un t = record {
  txn = t.txn;
  before = t.before ∙ un.before;
  latest = subst (λ (o : Option SessionCall). HasLine o new.latest (as_line t.txn h)) un.latest t.latest;
  closed = t.closed;
  over = t.over;
}

on_untold : (old mid new : SessionCalls) → IsUntold old mid → IsUntold mid new → IsUntold old new
on_untold old mid new a b = record { before = b.before ∙ a.before; latest = b.latest ∙ a.latest }

on_awaits : (old mid new : SessionCalls) → Awaits old mid → Awaits mid new → Awaits old new
on_awaits old mid new a b =
    record { untold = on_untold old mid new a.untold b.untold; live = b.live ∙ a.live; alive = b.alive }

-- failures, and then others
since_on : (old mid new : List Failure) (f : Failure) → FailsSince old mid None → EndsWithFailure mid new f
    → EndsWithFailure old new f
since_on old mid new f a b = (
  a.0 ++ b.0,
  b.1 ∙ ap (λ (fs : List Failure). fs ++ b.0 ++ f ∷ []) a.1
      ∙ ap (λ (fs : List Failure). fs ++ f ∷ []) (append_assoc old a.0 b.0),
)

none_on : (old mid new : List Failure) → FailsSince old mid None → FailsSince mid new None → FailsSince old new None
none_on old mid new a b =
    (a.0 ++ b.0, b.1 ∙ ap (λ (fs : List Failure). fs ++ b.0) a.1 ∙ append_assoc old a.0 b.0)

pub status_on : (old mid new : SessionCalls) (n : CallStatus) → IsStatus old mid status.Nothing → IsStatus mid new n → IsStatus old new n
status_on old mid new (status.Told h) a b = on_told old mid new h a.0.untold b
status_on old mid new status.CutOff a b = (on_untold old mid new a.0.untold b.0, b.1)
status_on old mid new (status.Refused f) a b =
    (on_awaits old mid new a.0 b.0, since_on old.failures mid.failures new.failures f a.1 b.1)
status_on old mid new status.Nothing a b =
    (on_awaits old mid new a.0 b.0, none_on old.failures mid.failures new.failures a.1 b.1)

-- a call that is told of later, and wasn't yet
pub follows_on : (o : Out) (mid now new : SessionCalls) (was n : CallStatus) → is_pending o ≡ true → was ≡ status.Nothing
    → Follows o mid was now → IsStatus now new n → Follows o mid n new
follows_on o mid now new was n pends is f found = record {
  awaited = λ _. status_on mid now new n (subst (λ (w : CallStatus). IsStatus mid now w) is (f.awaited pends)) found;
  done = λ none. absurd (cc (sym pends ∙ none));
}

pub untold_still : (o : Out) (mid now : SessionCalls) (was : CallStatus) → is_pending o ≡ true → was ≡ status.Nothing
    → line_of mid.latest ≡ None → Follows o mid was now → line_of now.latest ≡ None
untold_still o mid now was pends is none f =
    let w = subst (λ (x : CallStatus). IsStatus mid now x) is (f.awaited pends) in ap line_of w.0.untold.latest ∙ none

pub follows_status : (o : Out) (mid new : SessionCalls) (n : CallStatus) → is_pending o ≡ true → IsStatus mid new n → Follows o mid n new
follows_status o mid new n pends found =
    record { awaited = λ _. found; done = λ none. absurd (cc (sym pends ∙ none)) }

-- ---- how it ends

pub finishes : (o : Out) (mid new : SessionCalls) (n : CallStatus) (how : Ended) → IsEnd o n how → Follows o mid n new
    → Finishes o mid how new
finishes o mid new n ended.AtOnce is f = (is, f.done is)
finishes o mid new n (ended.Told h) is f =
    (is.0, subst (λ (w : CallStatus). IsStatus mid new w) is.1 (f.awaited is.0))
finishes o mid new n (ended.Unfinished failure) is f =
    let w = subst (λ (w : CallStatus). IsStatus mid new w) is.1 (f.awaited is.0) in (is.0, w.0, w.1)
finishes o mid new n ended.CutOff is f =
    let w = subst (λ (w : CallStatus). IsStatus mid new w) is.1 (f.awaited is.0) in (is.0, w.0, w.1)

-- ---- what is left unfinished

over : (c : SessionCall) (o : Option SessionCall) → o ≡ Some c → is_pending c.out ≡ false → pending o ≡ false
over c o is done = ap pending is ∙ ap (λ (b : Bool). cond b (is_untold c.line) false) done

pub left_with : (t : ℕ) (sort : Sort) (e : Event) (o : Out) (mid new : SessionCalls) (how : Ended) → sort_in e ≡ sort
    → mid.latest ≡ Some (called_as e o None) → Finishes o mid how new → IsLeftWith new (left_by t sort how) o
left_with t sort e o mid new ended.AtOnce is latest (done, still) =
    inr (over (called_as e o None) new.latest (ap (λ (p : SessionCalls). p.latest) still ∙ latest) done)
left_with t sort e o mid new (ended.Told h) is latest (pends, told) = told.closed
left_with t sort e o mid new (ended.Unfinished f) is latest (pends, waits, failed) = record {
  event = e;
  sort_is = is;
  awaited = pends;
  latest = waits.untold.latest ∙ latest;
  alive = waits.alive;
}
left_with t sort e o mid new ended.CutOff is latest (pends, untold, gone) = inl gone
