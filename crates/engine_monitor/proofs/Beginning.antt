-- How a call ends that begins a transaction.
use Rattle.std.proofs.Common.{◌≡◌, ℕ, true, List, [], ◌∷◌, ◌++◌, Option, Some, None, Result, Ok, Err, ap, sym, ◌∙◌, subst, inl, inr}
use Rattle.std.specs.Prelude.{IfErr, OnOk}
use Rattle.std.specs.Option.{is_some}
use Rattle.record_key.specs.declared.refusal.Refusal.{Refusal}
use Rattle.engine_guarded.specs.Hearing.{as_line}
use Rattle.engine_guarded.specs.engine_history.specs.Callers.{HasLine}
use Rattle.engine_guarded.specs.engine_history.specs.InFlightCalls.{EndsWithFailure}
use Rattle.engine_guarded.specs.engine_history.specs.Sessions.{IsCalled, IsLeft, LeavesLive, SessionCall, SessionCalls, called_as, call_list, is_pending, with_latest}
use Rattle.engine_guarded.specs.engine_history.specs.declared.failure.Failure.{Failure}
use Rattle.engine_guarded.specs.engine_history.specs.node_laws.specs.declared.event.Event.{Event}
use Rattle.engine_guarded.specs.engine_history.specs.node_laws.specs.declared.event.Out.{Out}
use Rattle.engine_guarded.specs.engine_history.specs.node_laws.specs.declared.event.Out.TheVariants as out
use Rattle.engine_guarded.specs.engine_answers.specs.Answers.{IsUncalled}
use Rattle.engine_monitor.specs.Ending.{Ends, Finishes}
use Rattle.engine_monitor.specs.declared.ended.Ended.{Ended}
use Rattle.engine_monitor.specs.declared.ended.Ended.TheVariants as ended

left_on : (old was new : Option ℕ) → IsLeft old was → IsLeft was new → IsLeft old new
left_on old was new (inl same) (inl is) = inl (is ∙ same)
left_on old was new (inr gone) (inl is) = inr (is ∙ gone)
left_on old was new left (inr gone) = inr gone

-- where what was alive before a call is what was alive still earlier, or is gone
leaves_on : (o : Out) (old was : Option ℕ) (new : SessionCalls) → IsLeft old was → LeavesLive was o new → LeavesLive old o new
leaves_on (out.Begun t) old was new left begun = begun
leaves_on _ old was new left rest = left_on old was new.live left rest

-- of a call that is told of later the transaction is the one that was alive before, if one is
halted : (o : Out) (was : Option ℕ) (mid new : SessionCalls) → is_pending o ≡ true → LeavesLive was o mid
    → new.live ≡ mid.live → is_some new.live ≡ true → new.live ≡ was
halted (out.Begun t) was mid new pends left same alive = absurd (cc (pends))
halted _ was mid new pends left same alive = at left
  where
    at : IsLeft was mid.live → new.live ≡ was
    at (inl is) = same ∙ is
    at (inr gone) = absurd (cc (sym (ap (λ (o : Option ℕ). is_some o) (same ∙ gone)) ∙ alive))

adds : (c : SessionCall) (old was new : SessionCalls) → call_list was ≡ call_list old → new.before ≡ call_list was
    → new.latest ≡ Some c → call_list new ≡ call_list old ++ c ∷ []
adds c old was new same before latest i = with_latest ((before ∙ same) i) (latest i)

-- a call that was made where the calls were those of old, or where their transaction was gone
pub ends_after : (e : Event) (o : Out) (old was mid new : SessionCalls) (how : Ended) → call_list was ≡ call_list old
    → IsLeft old.live was.live → IsCalled was e o mid → Finishes o mid how new → Ends e o old how new
ends_after e o old was mid new ended.AtOnce same left called (done, still) = (
  done,
  ap call_list still ∙ adds (called_as e o None) old was mid same called.before called.latest,
  subst (LeavesLive old.live o) (sym still) (leaves_on o old.live was.live mid left called.live),
)
ends_after e o old was mid new (ended.Told h) same left called (pends, told) =
    let line = as_line told.txn h in
    let latest : new.latest ≡ Some (called_as e o (Some line)) =
    subst (λ (c : Option SessionCall). HasLine c new.latest line) called.latest told.latest in (
      pends,
      (
        told.txn,
        adds (called_as e o (Some line)) old was new same (told.before ∙ called.before) latest,
        told.over,
      ),
    )
ends_after e o old was mid new (ended.Unfinished f) same left called (pends, waits, failed) = (
  pends,
  halted o old.live mid new pends (leaves_on o old.live was.live mid left called.live) waits.live waits.alive,
  waits.alive,
  adds (called_as e o None) old was new same (waits.untold.before ∙ called.before) (waits.untold.latest ∙ called.latest),
  subst (λ (fs : List Failure). EndsWithFailure fs new.failures f) called.failures failed,
)
ends_after e o old was mid new ended.CutOff same left called (pends, untold, gone) = (
  pends,
  gone,
  adds (called_as e o None) old was new same (untold.before ∙ called.before) (untold.latest ∙ called.latest),
)

-- a call that is let be made, or finds that an earlier one is cut off
pub left_free : {X : Type 0} (r : Result X Refusal) (old new : SessionCalls) → OnOk r (new ≡ old)
    → IfErr r (λ q. IsUncalled old q new) → IsLeft old.live new.live
left_free (Ok x) old new same none = inl (ap (λ (p : SessionCalls). p.live) same)
left_free (Err q) old new same (inl none) = inr none.1.1
left_free (Err q) old new same (inr barred) = inl (ap (λ (p : SessionCalls). p.live) barred.same)
