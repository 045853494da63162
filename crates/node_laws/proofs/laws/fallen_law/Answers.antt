use Rattle.node_laws.proofs.Restarts.Fallen.{fallen_is_kept}
use Rattle.node_laws.proofs.laws.fallen_law.Goals as goal

pub returns : goal.returns
returns c = fallen_is_kept
