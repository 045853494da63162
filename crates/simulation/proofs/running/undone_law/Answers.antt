use Rattle.simulation.proofs.Undoing.{undone_is_no_step}
use Rattle.simulation.proofs.running.undone_law.Goals as goal

pub returns : goal.returns
returns c = undone_is_no_step
