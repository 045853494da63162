use Rattle.engine_monitor.proofs.Opening.{named_as}
use Rattle.test_pool.proofs.renewing.successor.Goals as goal

pub successor_of-requires : goal.successor_of-requires
successor_of-requires g c = record { named = named_as c.args.opened }
