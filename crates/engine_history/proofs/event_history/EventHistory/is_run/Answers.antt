use Rattle.std.proofs.Common.{subst}
use Rattle.engine_history.specs.Steps.{RunsFrom}
use Rattle.engine_history.proofs.event_history.EventHistory.is_run.Goals as goal

pub returns : goal.returns
returns g c = subst (RunsFrom g.J.Naming.start) c.self.view_is c.is_run.ensures
