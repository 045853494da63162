use Rattle.std.proofs.Common.{◌+◌, ◌<◌, length, reverse, arith}
use Rattle.std.proofs.lemmas.List.{length-reverse}
use Rattle.history.specs.Legal.{Stands}
use Rattle.log_laws.proofs.LegalLogs.{stands_number}
use Rattle.log_laws.proofs.Undo.{latest_as}
use Rattle.log_laws.proofs.conditions.next_undo.Goals as goal

pub returns : goal.returns
returns c =
    latest_as (λ n. Stands (reverse c.args.log.now) c.args.txn n × (n < length c.args.log.now + 1))
    (Stands (reverse c.args.log.now) c.args.txn) (λ n h. h.0)
    (λ n h. (
      h,
      omega (
        arith,
        (stands_number (reverse c.args.log.now) c.args.txn n h).bounded,
        length-reverse c.args.log.now,
      ),
    ))
    c.latest_left.result c.latest_left.ensures
