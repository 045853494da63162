use Rattle.std.proofs.Common.{◌+◌, List, ◌∙◌, take, arith, subst, sym}
use Rattle.record_key.specs.declared.op.Answer.{Answer}
use Rattle.record_key.specs.declared.op.Op.{Op}
use Rattle.engine_monitor.specs.Batches.{Acts, ActsEach}
use Rattle.engine_monitor.proofs.Batching.{acts_more}
use Rattle.engine_monitor.proofs.client.Client.act_each.Goals as goal

pub loop-index-preserved : goal.loop-index-preserved
loop-index-preserved g c =
    let k = c.loop-index.invariant in
    let push = c.in-Ok-push.ensures in
    let i = c.loop-index.index in
    let ops = c.args.ops.now in
    let op = c.index-ops-index.result in
    let mid = c.loop-index.self.calls in
    let old = c.args.self.now.calls in
    let new = c.act.new.self.calls in
    record {
      number = c.in-Ok.ensures.number ∙ k.number;
      acts =
          subst (λ (answers : List Answer). ActsEach (take (i + 1) ops) answers old new) (sym {A = List Answer} push.items)
          (acts_more ops c.loop-index.answers.items i op c.in-Ok.answer old mid new c.loop-index-test.true k.acts
          (subst (λ (o : Op). Acts o c.in-Ok.answer mid new) c.index-ops-index.is c.in-Ok.ensures.answered));
      count = omega (arith, push.len, k.count);
      room = omega (arith, push.capacity, k.room);
    }
