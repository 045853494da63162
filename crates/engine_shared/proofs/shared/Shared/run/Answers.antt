use Rattle.std.proofs.Common.{◌≡◌, Some, subst}
use Rattle.engine_answers.specs.engine_history.specs.Sessions.{SessionCalls}
use Rattle.engine_answers.proofs.Ending.{ends_by}
use Rattle.engine_answers.specs.Answers.{CallsUntold}
use Rattle.engine_answers.specs.Asking.{event_of}
use Rattle.engine_shared.specs.declared.access.Called.{Called}
use Rattle.engine_shared.proofs.shared.Shared.run.Goals as goal

pub returns-clause-ends : goal.returns-clause-ends
returns-clause-ends g c =
    let entries = g.J.Naming.entries in
    let old = c.args.caller.now.calls in
    let mid = c.call.new.caller.calls in
    let new = c.finish-ended.new.caller.calls in
    let made = c.in-Some.field-0 in
    let event = event_of made.txn c.args.ask in
    let same = c.in_ok-free.ensures.free.0 in
    let k = subst (λ (m : Called). (c.free.new.caller.calls.live ≡ Some m.txn)
    × CallsUntold entries (event_of m.txn c.args.ask) c.free.new.caller.calls m.token mid) c.in-Some.field-0-is
    c.in-Some.ensures.calls in
    let calls = subst (λ (p : SessionCalls). CallsUntold entries event p made.token mid) same k.1 in (
      made.txn,
      subst (λ (p : SessionCalls). p.live ≡ Some made.txn) same k.0,
      ends_by entries event old mid new made.token c.finish-ended.result calls c.finish-ended.ensures.ends,
    )
