use Rattle.node_serial.proofs.Leading.{close_is_serial, left_is_serial}
use Rattle.node_serial.proofs.laws.close_law.Goals as goal

pub returns : goal.returns
returns c = record { run = close_is_serial; left = left_is_serial }
