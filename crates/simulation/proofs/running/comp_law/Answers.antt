use Rattle.simulation.proofs.Undoing.{comp_is_no_step}
use Rattle.simulation.proofs.running.comp_law.Goals as goal

pub returns : goal.returns
returns c = comp_is_no_step
