use Rattle.dc_recovery.proofs.Leaves.{leaves_are_the_shapes}
use Rattle.dc_recovery.proofs.laws.leaves_law.Goals as goal

pub returns : goal.returns
returns c = leaves_are_the_shapes
