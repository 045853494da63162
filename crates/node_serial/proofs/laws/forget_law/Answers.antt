use Rattle.node_serial.proofs.Leading.{forgetting_tells_nothing}
use Rattle.node_serial.proofs.laws.forget_law.Goals as goal

pub returns : goal.returns
returns c = forgetting_tells_nothing
