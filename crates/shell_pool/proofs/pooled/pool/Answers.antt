use Rattle.engine_workers.proofs.Opening.{named_as}
use Rattle.shell_pool.proofs.pooled.pool.Goals as goal

pub run_opened-requires-clause-named : goal.run_opened-requires-clause-named
run_opened-requires-clause-named g c κs within = named_as c.in-Ok.opened
