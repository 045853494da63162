-- The events that begin an exchange: where they aren't refused, each sends a request that has a reply.
use Rattle.std.proofs.Common.{◌≡◌, ℕ, ◌+◌, ◌∷◌, [], length, refl, sym, ap, ◌∙◌, subst, inl, inr}
use Rattle.std.proofs.lemmas.Bool.{MatchBool-at_true}
use Rattle.std.proofs.lemmas.List.{length-append}
use Rattle.codec.specs.declared.request.Request.{Request}
use Rattle.tc_core.specs.TcView.{TcView}
use Rattle.tc_core.specs.declared.phase.Phase.{Phase}
use Rattle.tc_core.specs.Recovery.{SendsAt}
use Rattle.node_laws.specs.declared.event.Event.{Event}
use Rattle.node_laws.specs.declared.event.Event.TheVariants as event
use Rattle.node_laws.specs.declared.event.Out.{Out}
use Rattle.node_laws.specs.declared.event.Out.TheVariants as out
use Rattle.tc_log.specs.LogView.{last_not_session}
use Rattle.node_laws.specs.Node.{NodeView, AreUp, next_connect, Sends, ReconnectsTo, RecoversTo, SendsTo, StepsTo}
use Rattle.node_laws.specs.Rounds.{IsDone, IsExchange, IsRecovering}
use Rattle.node_laws.proofs.Settles.Exchanges.{HasReply, replied_once}
use Rattle.node_laws.proofs.Settles.Falls.{recovering_at}
use Rattle.node_laws.proofs.Settles.Replied.{connect_replied, perform_replied, redo_replied, request_replied}

-- one request more
one_sent : (w mid : NodeView) (tc : TcView) (q : Request) (i : ℕ) → Sends w tc q i mid
    → length mid.requests ≡ length w.requests + 1
one_sent w mid tc q i sends = ap (λ (x : NodeView). length x.requests) sends.left ∙ length-append w.requests (q ∷ [])

-- what an event sent, if it wasn't refused
record IsAsked (w mid : NodeView) : Type 0 where
  tc : TcView
  request : Request
  number : ℕ
  sends : Sends w tc request number mid
  replied : HasReply request

is_exchange : (w : NodeView) (e : Event) → ((o : Out) (mid : NodeView) → StepsTo w e o mid → IsDone o → IsAsked w mid)
    → IsExchange w e
is_exchange w e asked = record {
  sent = λ o mid step done. let a = asked o mid step done in one_sent w mid a.tc a.request a.number a.sends;
  replied = λ o p mid new step done next ended.
      let a = asked o mid step done in replied_once w mid a.tc a.request a.number p new a.replied a.sends next ended;
}

connect_asked : (w : NodeView) (o : Out) (mid : NodeView) → ReconnectsTo w o mid → IsDone o → IsAsked w mid
connect_asked w (out.Connects i cs) mid h d = record {
  tc = mid.tc;
  request = next_connect w.tc;
  number = i;
  sends = h.1;
  replied = connect_replied (length w.tc.log + 1) (last_not_session w.tc.log);
}
connect_asked w (out.Refused r) mid h d = absurd d
connect_asked w _ mid h d = absurd h

pub asks_connect : (w : NodeView) → AreUp w → IsExchange w event.Reconnect
asks_connect w up =
    is_exchange w event.Reconnect (λ o mid step done. connect_asked w o mid (MatchBool-at_true _ _ up.tc step) done)

send_asked : (w : NodeView) (t : ℕ) (o : Out) (mid : NodeView) → SendsTo w t o mid → IsDone o → IsAsked w mid
send_asked w t (out.Sent i) mid h d = record {
  tc = w.tc;
  request = h.0;
  number = i;
  sends = h.2;
  replied = request_replied w.tc t h.0 h.1.1;
}
send_asked w t (out.Refused r) mid h d = absurd d
send_asked w t _ mid h d = absurd h

pub asks_send : (w : NodeView) (t : ℕ) → AreUp w → IsExchange w (event.Send t)
asks_send w t up =
    is_exchange w (event.Send t) (λ o mid step done. send_asked w t o mid (MatchBool-at_true _ _ up.tc step) done)

-- redo's requests, and the compensation that undo awaits
recover_asked : (w : NodeView) → IsRecovering w.tc.stable w.tc.phase → (o : Out) (mid : NodeView) → RecoversTo w o mid
    → IsDone o → IsAsked w mid
recover_asked w recovers (out.Sent i) mid h d = record {
  tc = mid.tc;
  request = h.0;
  number = i;
  sends = h.2;
  replied = elim (recovering_at w w.tc.phase refl recovers) [
    | inl at ↦
        let P : Phase → Type 0 = λ p. SendsAt w.tc p h.0 mid.tc in
        let redo = subst P at.2 h.1.1 in
        let Q : Request → Type 0 = HasReply in
        subst Q (sym redo.request_is) (redo_replied w.tc redo.found)
    | inr at ↦
        let P : Phase → Type 0 = λ p. SendsAt w.tc p h.0 mid.tc in
        let undo = subst P at.1 h.1.1 in
        let Q : Request → Type 0 = HasReply in
        subst Q (sym undo.request_is) (perform_replied w.tc.session at.0 w.tc.stable undo.op)
  ];
}
recover_asked w recovers out.Nothing mid h d =
    let P : Phase → Type 0 = IsRecovering w.tc.stable in absurd (subst P h.0.1.0 recovers)
recover_asked w recovers (out.Compensated n) mid h d =
    let P : Phase → Type 0 = IsRecovering w.tc.stable in absurd (subst P h.0.1.undoing recovers)
recover_asked w recovers (out.Lost t) mid h d =
    let P : Phase → Type 0 = IsRecovering w.tc.stable in absurd (subst P h.0.1.undoing recovers)
recover_asked w recovers (out.Refused r) mid h d = absurd d
recover_asked w recovers _ mid h d = absurd h

pub asks_recover : (w : NodeView) → AreUp w → IsRecovering w.tc.stable w.tc.phase → IsExchange w event.Recover
asks_recover w up recovers =
    is_exchange w event.Recover
    (λ o mid step done. recover_asked w recovers o mid (MatchBool-at_true _ _ up.tc step) done)
