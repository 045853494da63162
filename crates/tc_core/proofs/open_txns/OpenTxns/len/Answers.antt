use Rattle.std.proofs.Common.{length, ap, arith}
use Rattle.std.proofs.lemmas.Grind.{common_steps}
use Rattle.tc_core.proofs.Slots.{as_many}
use Rattle.tc_core.proofs.open_txns.OpenTxns.len.Goals as goal

pub returns : goal.returns
returns c =
    let old = c.self.inside in
    grind (arith, common_steps, as_many old.txns old.slots.items c.self.invariant.each, ap length c.self.view_is, c.len.ensures)
