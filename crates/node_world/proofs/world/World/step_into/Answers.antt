use Rattle.node_sides.specs.node_laws.proofs.Machine.Headline.{follows}
use Rattle.node_sides.specs.node_laws.proofs.Stood.{stepped}
use Rattle.node_world.specs.Seen.{seen}
use Rattle.node_world.proofs.world.World.step_into.Goals as goal

pub invariant_of-self : goal.invariant_of-self
invariant_of-self g c =
    let old = seen c.self.inside.node in
    let new = seen c.step.new.self in
    let all = follows old new c.args.event.now c.step.new.out c.self.invariant.kept
    c.step.ensures.tc c.step.ensures.dc c.step.ensures.step in record {
      kept = all.kept;
      stood = stepped old c.args.event.now c.step.new.out new
          (record { step = c.step.ensures.step; leads = all.leads; kept = all.kept }) c.self.invariant.stood;
    }

pub returns : goal.returns
returns g c =
    let all =
    follows (seen c.self.inside.node) (seen c.step.new.self) c.args.event.now c.step.new.out c.self.invariant.kept
    c.step.ensures.tc c.step.ensures.dc c.step.ensures.step in
    rw (← c.self.view_is) (record { step = c.step.ensures.step; leads = all.leads; kept = all.kept })
