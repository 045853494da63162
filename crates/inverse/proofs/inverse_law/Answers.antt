use Rattle.inverse.proofs.Undo.{undone}
use Rattle.inverse.proofs.inverse_law.Goals as goal

pub returns : goal.returns
returns c = undone
