use Rattle.std.proofs.Common.{reverse, arith}
use Rattle.std.proofs.lemmas.List.{length-reverse}
use Rattle.log_laws.proofs.Checking.{waits_number, idle_from}
use Rattle.log_laws.proofs.conditions.is_idle.Goals as goal

pub loop-place-init : goal.loop-place-init
loop-place-init c = λ n none h. omega (arith, (waits_number (reverse c.args.log.now) c.args.txn n h).positive)

pub returns : goal.returns
returns c = grind (arith, idle_from, length-reverse)
