use Rattle.log_laws.proofs.Undo.{undo_is_found}
use Rattle.log_laws.proofs.laws.undo_chain_law.Goals as goal

pub returns : goal.returns
returns c = undo_is_found
