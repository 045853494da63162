use Rattle.dc_store.proofs.KeepsLeaves.{keeps_lowered}
use Rattle.dc_store.proofs.system.SystemTxns.lower.Goals as goal

pub invariant_of-self : goal.invariant_of-self
invariant_of-self g c = rw c.raise.ensures.raised (keeps_lowered _ c.args.low c.requires c.self.invariant)
