use Rattle.dc_core.specs.Seen.{seen}
use Rattle.dc_core.proofs.KeepsSystems.{flush_keeps}
use Rattle.dc_core.proofs.dc.Dc.flush.Goals as goal

pub invariant_of-self : goal.invariant_of-self
invariant_of-self g c =
    flush_keeps (seen c.self.inside) c.args.key.now c.flush-given.result c.flush-given.new.self c.self.invariant
    c.kept.ensures c.flush-given.ensures.gives
