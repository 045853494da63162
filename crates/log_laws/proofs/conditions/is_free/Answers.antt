use Rattle.std.proofs.Common.{reverse, refl, arith}
use Rattle.std.proofs.lemmas.List.{length-reverse}
use Rattle.log_laws.proofs.Checking.{blocks_number, free_from}
use Rattle.log_laws.proofs.conditions.is_free.Goals as goal

pub loop-place-init : goal.loop-place-init
loop-place-init c = λ n none h. omega
    (arith, (blocks_number (reverse c.args.log.now) c.args.txn c.args.op.now n h).positive)

pub returns : goal.returns
returns c = (
  λ _. free_from (reverse c.args.log.now) c.args.txn c.args.op.now
      (λ n within. c.loop-place.invariant n (omega (arith, length-reverse c.args.log.now))),
  λ _. refl,
)
