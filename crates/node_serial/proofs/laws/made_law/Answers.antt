use Rattle.node_serial.proofs.Leading.{new_has_told, opened_has_told}
use Rattle.node_serial.proofs.laws.made_law.Goals as goal

pub returns : goal.returns
returns c = record { new = new_has_told; opened = opened_has_told }
