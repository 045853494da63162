use Rattle.node_laws.proofs.Stood.{emptied, silent}
use Rattle.node_laws.proofs.laws.forgetting_law.Goals as goal

pub returns : goal.returns
returns c = record { kept = emptied; stands = λ w m s. s; node = silent }
