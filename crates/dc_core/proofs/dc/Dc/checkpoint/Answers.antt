use Rattle.dc_core.specs.Seen.{seen}
use Rattle.dc_core.proofs.KeepsSystems.{checkpoint_keeps}
use Rattle.dc_core.proofs.dc.Dc.checkpoint.Goals as goal

pub invariant_of-self : goal.invariant_of-self
invariant_of-self g c =
    checkpoint_keeps (seen c.self.inside) c.args.low c.checkpoint-written.result c.checkpoint-written.new.self
    c.self.invariant c.kept.ensures c.checkpoint-written.ensures.gives

pub invariant_of-self-2 : goal.invariant_of-self-2
invariant_of-self-2 g c =
    checkpoint_keeps (seen c.self.inside) c.args.low c.checkpoint-written.result c.checkpoint-written.new.self
    c.self.invariant c.kept.ensures c.checkpoint-written.ensures.gives
