use Rattle.std.proofs.Common.{refl, arith}
use Rattle.node_sides.specs.node_laws.proofs.Machine.Headline.{leads_more, chain_more}
use Rattle.node_world.proofs.driving.drive.Goals as goal

pub loop-event-init : goal.loop-event-init
loop-event-init g c = record {
  chain = rw c.in_ok-outs.ensures.items refl;
  run = rw c.in_ok-outs.ensures.items (λ m stands. (m, refl, stands));
  count = omega (arith, c.in_ok-outs.ensures.len);
  room = omega (arith, c.in_ok-outs.ensures.capacity);
}

pub loop-event-preserved : goal.loop-event-preserved
loop-event-preserved g c = record {
  chain = rw c.in-Ok.ensures.items
      (chain_more c.args.world.now c.args.events.now c.loop-event.event-index c.loop-event.outs.items c.loop-event.world
      c.event-item.result c.step_into.new.out c.step_into.new.self
      (omega arith) c.event-item.is c.loop-event.invariant.chain c.step_into.ensures);
  run = rw c.in-Ok.ensures.items
      (leads_more c.args.world.now c.args.events.now c.loop-event.event-index c.loop-event.outs.items c.loop-event.world
      c.event-item.result c.step_into.new.out c.step_into.new.self
      (omega arith) c.event-item.is c.loop-event.invariant.run c.step_into.ensures.leads);
  count = omega (arith, c.in-Ok.ensures.len);
  room = omega (arith, c.in-Ok.ensures.capacity);
}
