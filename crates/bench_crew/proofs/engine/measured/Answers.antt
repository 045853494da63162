use Rattle.engine_workers.proofs.Opening.{named_as}
use Rattle.bench_crew.proofs.engine.measured.Goals as goal

pub measured_in-requires-clause-named : goal.measured_in-requires-clause-named
measured_in-requires-clause-named g c κs within = named_as c.in_ok-opened.opened
