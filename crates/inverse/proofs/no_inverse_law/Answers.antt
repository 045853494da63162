use Rattle.inverse.proofs.Undo.{without_effect}
use Rattle.inverse.proofs.no_inverse_law.Goals as goal

pub returns : goal.returns
returns c = without_effect
