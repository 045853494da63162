use Rattle.std.proofs.Common.{◌≡◌, ◌∙◌, ℕ, ◌+◌, List, [], ◌∷◌, length, Result, Ok, Err, sym, subst}
use Rattle.std.specs.Result.{IsErrAnd}
use Rattle.record_key.specs.declared.refusal.Refusal.{Refusal}
use Rattle.node_sides.specs.node_laws.specs.declared.event.Event.{Event}
use Rattle.node_sides.specs.node_laws.specs.declared.event.Event.TheVariants as event
use Rattle.node_sides.specs.node_laws.specs.declared.event.Out.{Out}
use Rattle.node_sides.specs.node_laws.specs.Node.{NodeView}
use Rattle.node_sides.specs.node_laws.specs.Rounds.{Performed, Stopped, Does, IsExchange, exchange}
use Rattle.node_sides.specs.node_laws.proofs.Settles.Playing.{then_done, then_stopped, first_stopped, sent_number, replied_number}
use Rattle.node_world.proofs.settling.exchange.Goals as goal

-- the request was delivered or not, and then its reply
second_stopped : (w mid new : NodeView) (e : Event) (i : ℕ) (a b c : List Out) (r : Refusal) → IsExchange w e
    → Performed w (e ∷ []) a b mid → i ≡ length mid.requests
    → Stopped mid (event.Request i ∷ []) b c r new → Stopped w (exchange w e) a c r new
second_stopped w mid new e i a b c r asks first number h =
    let same : i ≡ length w.requests + 1 = number ∙ sent_number w mid e a b asks first in
    let P : ℕ → Type 0 = λ n. Stopped mid (event.Request n ∷ []) b c r new in
    then_stopped w mid new e (event.Request (length w.requests + 1) ∷ event.Reply (length w.replies + 1) ∷ []) a b c r
    first
    (first_stopped mid new (event.Request (length w.requests + 1)) (event.Reply (length w.replies + 1) ∷ []) b c r
    (subst P same h))

-- the refusal is handed on
second_failed : (w mid new : NodeView) (e : Event) (i : ℕ) (a b c : List Out) (r : Refusal)
    (result : Result (Unit {0}) Refusal)
    → IsExchange w e → Performed w (e ∷ []) a b mid → i ≡ length mid.requests
    → Stopped mid (event.Request i ∷ []) b c r new → IsErrAnd result (λ q. q ≡ r) → Does w (exchange w e) a c result new
second_failed w mid new e i a b c r (Ok u) asks first number h same = absurd same
second_failed w mid new e i a b c r (Err q) asks first number h same =
    let P : Refusal → Type 0 = λ x. Stopped w (exchange w e) a c x new in
    subst P (sym same) (second_stopped w mid new e i a b c r asks first number h)

third : (w mid after new : NodeView) (e : Event) (i j : ℕ) (a b c d : List Out) (result : Result (Unit {0}) Refusal)
    → IsExchange w e → Performed w (e ∷ []) a b mid → i ≡ length mid.requests
    → Performed mid (event.Request i ∷ []) b c after → j ≡ length after.replies
    → Does after (event.Reply j ∷ []) c d result new → Does w (exchange w e) a d result new
third w mid after new e i j a b c d result asks first number second reply h =
    let same : i ≡ length w.requests + 1 = number ∙ sent_number w mid e a b asks first in
    let P : ℕ → Type 0 = λ n. Performed mid (event.Request n ∷ []) b c after in
    let served : Performed mid (event.Request (length w.requests + 1) ∷ []) b c after = subst P same second in
    let numbered : j ≡ length w.replies + 1 = reply ∙ replied_number w mid after e a b c asks first served in
    let Q : ℕ → Type 0 = λ n. Does after (event.Reply n ∷ []) c d result new in
    by result served (subst Q numbered h)
  where
    by : (result : Result (Unit {0}) Refusal) → Performed mid (event.Request (length w.requests + 1) ∷ []) b c after
        → Does after (event.Reply (length w.replies + 1) ∷ []) c d result new
        → Does w (exchange w e) a d result new
    by (Ok u) served h =
        then_done w mid new e (event.Request (length w.requests + 1) ∷ event.Reply (length w.replies + 1) ∷ []) a b d
        first
        (then_done mid after new (event.Request (length w.requests + 1)) (event.Reply (length w.replies + 1) ∷ []) b c d
        served h)
    by (Err r) served h =
        then_stopped w mid new e (event.Request (length w.requests + 1) ∷ event.Reply (length w.replies + 1) ∷ []) a b d
        r first
        (then_stopped mid after new (event.Request (length w.requests + 1)) (event.Reply (length w.replies + 1) ∷ []) b
        c d r served h)

pub returns-in_err-perform-2 : goal.returns-in_err-perform-2
returns-in_err-perform-2 g c =
    second_failed c.args.world.now c.perform.new.world c.perform-2.new.world c.args.event.now c.requests-request.result
    c.args.out.now.items c.perform.new.out.items c.perform-2.new.out.items
    c.in_err-perform-2.field-0.0 c.from_residual-in_err-perform-2.result c.requires c.in_ok-perform.ensures
    c.requests-request.ensures c.in_err-perform-2.ensures
    c.from_residual-in_err-perform-2.ensures.1

pub returns : goal.returns
returns g c =
    third c.args.world.now c.perform.new.world c.perform-2.new.world c.perform-3.new.world c.args.event.now
    c.requests-request.result c.replies-reply.result
    c.args.out.now.items c.perform.new.out.items c.perform-2.new.out.items c.perform-3.new.out.items c.perform-3.result
    c.requires c.in_ok-perform.ensures c.requests-request.ensures c.in_ok-perform-2.ensures c.replies-reply.ensures
    c.perform-3.ensures
