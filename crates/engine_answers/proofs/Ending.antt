-- How a call ends, from its entry on.
use Rattle.std.proofs.Common.{◌≡◌, ℕ, true, List, [], ◌∷◌, ◌++◌, Option, Some, None, ap, sym, ◌∙◌, subst, inl, inr}
use Rattle.std.specs.Option.{is_some}
use Rattle.boxcar.specs.Table.{Shelves}
use Rattle.engine_history.specs.node_laws.specs.declared.event.Event.{Event}
use Rattle.engine_history.specs.node_laws.specs.declared.event.Out.{Out}
use Rattle.engine_history.specs.node_laws.specs.declared.event.Out.TheVariants as out
use Rattle.engine_history.specs.Callers.{HasLine}
use Rattle.engine_history.specs.InFlightCalls.{EndsWithFailure}
use Rattle.engine_history.specs.declared.failure.Failure.{Failure}
use Rattle.engine_history.specs.Sessions.{SessionCall, IsLeft, LeavesLive, SessionCalls, called_as, call_list, is_pending, with_latest}
use Rattle.engine_history.specs.Slots.{Slot}
use Rattle.engine_answers.specs.Answers.{AddsCall, CallsUntold, Ends, Finishes}
use Rattle.engine_answers.specs.declared.ended.Ended.{Ended}
use Rattle.engine_answers.specs.declared.ended.Ended.TheVariants as ended

-- of a call that is told of later the transaction is the one that was alive before, if one is
halted : (o : Out) (was : Option ℕ) (mid new : SessionCalls) → is_pending o ≡ true → LeavesLive was o mid
    → new.live ≡ mid.live → is_some new.live ≡ true → new.live ≡ was
halted (out.Begun t) was mid new pends left same alive = absurd (cc (pends))
halted _ was mid new pends left same alive = at left
  where
    at : IsLeft was mid.live → new.live ≡ was
    at (inl is) = same ∙ is
    at (inr gone) = absurd (cc (sym (ap (λ (o : Option ℕ). is_some o) (same ∙ gone)) ∙ alive))

adds : (c : SessionCall) (old new : SessionCalls) → new.before ≡ call_list old → new.latest ≡ Some c → call_list new ≡ call_list old ++ c ∷ []
adds c old new before latest i = with_latest (before i) (latest i)

abbrev pub out_of : Slot → Out
out_of p = p.value.step.value.out

pub ends_by : (entries : Shelves) (e : Event) (old mid new : SessionCalls) (token : Slot) (how : Ended) → CallsUntold entries e old token mid
    → Finishes entries token mid how new → Ends entries e old how new
ends_by entries e old mid new token (ended.AtOnce p) k (shown, is, done, still) =
    let same : out_of p ≡ out_of token = ap out_of is in
    let live : LeavesLive old.live (out_of token) new = subst (LeavesLive old.live (out_of token)) (sym still) k.called.live in (
      shown,
      ap is_pending same ∙ done,
      subst (λ (o : Out). AddsCall e o None old new) (sym same)
          (ap call_list still ∙ adds (called_as e (out_of token) None) old mid k.called.before k.called.latest),
      subst (λ (o : Out). LeavesLive old.live o new) (sym same) live,
    )
ends_by entries e old mid new token (ended.Told p q) k (p_shown, is, q_shown, pends, told) =
    let same : out_of p ≡ out_of token = ap out_of is in
    let latest : new.latest ≡ Some (called_as e (out_of token) (Some told.line)) =
    subst (λ (o : Option SessionCall). HasLine o new.latest told.line) k.called.latest told.latest in (
      p_shown,
      q_shown,
      ap is_pending same ∙ pends,
      (
        told.txn,
        (
          told.line,
          told.tells,
          told.over,
          subst (λ (o : Out). AddsCall e o (Some told.line) old new) (sym same)
              (adds (called_as e (out_of token) (Some told.line)) old new (told.before ∙ k.called.before) latest),
        ),
      ),
    )
ends_by entries e old mid new token (ended.Unfinished u f) k (is, pends, waits, failed) =
    let same : out_of u.call ≡ out_of token = ap out_of is in (
      ap is_pending same ∙ pends,
      halted (out_of token) old.live mid new pends k.called.live waits.live waits.alive,
      waits.alive,
      subst (λ (o : Out). AddsCall e o None old new) (sym same)
          (adds (called_as e (out_of token) None) old new (waits.untold.before ∙ k.called.before)
          (waits.untold.latest ∙ k.called.latest)),
      subst (λ (fs : List Failure). EndsWithFailure fs new.failures f) k.called.failures failed,
    )
ends_by entries e old mid new token ended.CutOff k (pends, gone, untold) = (
  out_of token,
  pends,
  gone,
  adds (called_as e (out_of token) None) old new (untold.before ∙ k.called.before) (untold.latest ∙ k.called.latest),
)
