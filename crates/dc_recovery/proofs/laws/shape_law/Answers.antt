use Rattle.dc_recovery.proofs.Shapes.{well_formed}
use Rattle.dc_recovery.proofs.laws.shape_law.Goals as goal

pub returns : goal.returns
returns c = well_formed
