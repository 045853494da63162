use Rattle.std.proofs.Common.{arith}
use Rattle.std.proofs.lemmas.List.{length-reverse}
use Rattle.log_laws.proofs.LegalLogs.{step_number}
use Rattle.log_laws.proofs.Checking.{latest_none, latest_all}
use Rattle.log_laws.proofs.conditions.latest_step.Goals as goal

pub loop-place-init : goal.loop-place-init
loop-place-init c = grind (arith, latest_none, step_number)

pub returns : goal.returns
returns c = grind (arith, latest_all, step_number, length-reverse)
