use Rattle.tc_restart.specs.Plan.{IsFound}
use Rattle.tc_restart.proofs.findings.read.Given as goal

abbrev pub invariant-loop-end : goal.invariant-loop-end
invariant-loop-end g l = IsFound l.log.records l.end l.findings
