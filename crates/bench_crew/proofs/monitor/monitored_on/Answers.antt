use Rattle.engine_monitor.proofs.Opening.{named_as}
use Rattle.bench_crew.proofs.monitor.monitored_on.Goals as goal

pub monitored_in-requires-clause-named : goal.monitored_in-requires-clause-named
monitored_in-requires-clause-named g c κs within = named_as c.in_ok-opened.opened
