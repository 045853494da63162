use Rattle.dc_core.specs.Seen.{seen}
use Rattle.dc_core.proofs.KeepsSystems.{split_keeps}
use Rattle.dc_core.proofs.dc.Dc.split.Goals as goal

pub invariant_of-self : goal.invariant_of-self
invariant_of-self g c =
    split_keeps (seen c.self.inside) c.args.key.now c.split-given.result c.split-given.new.self c.self.invariant
    c.kept.ensures c.split-given.ensures.gives
