use Rattle.node_serial.proofs.Leading.{settle_is_serial, telling_is_serial}
use Rattle.node_serial.proofs.laws.settle_law.Goals as goal

pub returns : goal.returns
returns c = record { settled = settle_is_serial; told = telling_is_serial }
