use Rattle.simulation.proofs.Crash.{crash_is_a_step}
use Rattle.simulation.proofs.laws.crash_law.Goals as goal

pub returns : goal.returns
returns c = crash_is_a_step
