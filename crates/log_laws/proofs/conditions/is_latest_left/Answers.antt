use Rattle.std.proofs.Common.{◌<◌, reverse}
use Rattle.history.specs.Legal.{Stands}
use Rattle.log_laws.proofs.Checking.{is_the_latest}
use Rattle.log_laws.proofs.conditions.is_latest_left.Goals as goal

pub returns : goal.returns
returns c =
    is_the_latest (λ n. Stands (reverse c.args.log.now) c.args.txn n × (n < c.args.below)) c.latest_left.result
    c.args.number c.latest_left.ensures
