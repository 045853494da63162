use Rattle.engine_monitor.proofs.Opening.{named_as}
use Rattle.test_pool.proofs.monitored.run_monitored.Goals as goal

pub monitor_opened-requires-clause-named : goal.monitor_opened-requires-clause-named
monitor_opened-requires-clause-named g c κs within = named_as c.in_ok-opened.opened
