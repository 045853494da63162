use Rattle.std.proofs.Common.{reverse, arith}
use Rattle.history.specs.Legal.{Stands}
use Rattle.log_laws.proofs.LegalLogs.{stands_number}
use Rattle.log_laws.proofs.Checking.{is_the_next, is_zero}
use Rattle.log_laws.proofs.conditions.is_next_undo.Goals as goal

pub returns-then-number-ne0 : goal.returns-then-number-ne0
returns-then-number-ne0 c =
    is_the_next (Stands (reverse c.args.log.now) c.args.txn) c.next_undo.result c.args.number c.if-number-ne0.true
    c.next_undo.ensures

pub returns-else-number-ne0 : goal.returns-else-number-ne0
returns-else-number-ne0 c =
    is_zero (Stands (reverse c.args.log.now) c.args.txn) c.args.number c.if-number-ne0.false
    (λ h. omega (arith, (stands_number (reverse c.args.log.now) c.args.txn 0 h).positive))
