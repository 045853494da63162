use Rattle.engine_monitor.proofs.Opening.{named_as}
use Rattle.shell_pool.proofs.monitored.pool.Goals as goal

pub run_opened-requires-clause-named : goal.run_opened-requires-clause-named
run_opened-requires-clause-named g c κs within = named_as c.in-Ok.opened
