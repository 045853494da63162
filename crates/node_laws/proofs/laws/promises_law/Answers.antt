use Rattle.node_laws.proofs.Invariant.Promised.{promised}
use Rattle.node_laws.proofs.laws.promises_law.Goals as goal

pub returns : goal.returns
returns c = promised
