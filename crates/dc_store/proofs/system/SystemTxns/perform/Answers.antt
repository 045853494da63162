use Rattle.record_key.specs.Lent.{op_lent}
use Rattle.dc_store.proofs.KeepsLeaves.{keeps_performs}
use Rattle.dc_store.proofs.system.SystemTxns.perform.Goals as goal

pub invariant_of-self-2 : goal.invariant_of-self-2
invariant_of-self-2 g c =
    keeps_performs _ c.args.number (op_lent c.args.op.now) c.in_ok-done.done _ _ c.requires.number c.self.invariant
    c.in_ok-done.ensures.done
