use Rattle.tc_core.specs.declared.change.Change.TheVariants.{Rolls}
use Rattle.tc_core.specs.Seen.{seen}
use Rattle.tc_core.proofs.KeepsTc.{keeps_rollback}
use Rattle.tc_core.proofs.Refused.{happened}
use Rattle.tc_core.proofs.parts.Parts.rollback.Goals as goal

pub returns-clause-kept : goal.returns-clause-kept
returns-clause-kept g c =
    let w = seen c.args.self.now in
    let o = c.in_ok-idle.field-0.now in
    let found = c.in_ok-idle.ensures.found in
    rw (happened w c.args.txn o Rolls c.change.new.self found.at c.change.ensures)
    (keeps_rollback w o c.requires found.at.is found.waiting found.reading)
