use Rattle.std.proofs.Common.{reverse, arith}
use Rattle.std.proofs.lemmas.List.{length-reverse}
use Rattle.log_laws.proofs.Checking.{lacks_number, answered_from}
use Rattle.log_laws.proofs.conditions.are_answered.Goals as goal

pub loop-place-init : goal.loop-place-init
loop-place-init c = λ n none h. omega (arith, (lacks_number (reverse c.args.log.now) c.args.low n h).positive)

pub returns : goal.returns
returns c = grind (arith, answered_from, length-reverse)
