use Rattle.node_serial.proofs.Leading.{step_is_serial}
use Rattle.node_serial.proofs.laws.step_law.Goals as goal

pub returns : goal.returns
returns c = step_is_serial
