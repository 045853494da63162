use Rattle.tc_restart.proofs.Found.{found_none}
use Rattle.tc_restart.proofs.findings.Findings.new.Goals as goal

pub returns : goal.returns
returns c log =
    found_none log (record { analysis = c.new.result; winners = c.new-2.result; missing = c.new-3.result })
    c.new.ensures c.new-2.ensures.items c.new-3.ensures.items
