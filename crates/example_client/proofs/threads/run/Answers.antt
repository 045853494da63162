use Rattle.engine_monitor.proofs.Opening.{named_as}
use Rattle.example_client.proofs.threads.run.Goals as goal

pub count-requires-clause-named : goal.count-requires-clause-named
count-requires-clause-named g c κs within = named_as c.in_ok-opened.opened
