use Rattle.std.proofs.Common.{reverse, arith}
use Rattle.history.specs.Legal.{Stands}
use Rattle.log_laws.proofs.LegalLogs.{stands_number}
use Rattle.log_laws.proofs.Checking.{is_none}
use Rattle.log_laws.proofs.conditions.is_undone_wholly.Goals as goal

pub returns : goal.returns
returns c =
    is_none (Stands (reverse c.args.log.now) c.args.txn) c.next_undo.result
    (λ h. omega (arith, (stands_number (reverse c.args.log.now) c.args.txn 0 h).positive)) c.next_undo.ensures
