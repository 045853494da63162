use Rattle.node_serial.proofs.Leading.{drive_is_serial}
use Rattle.node_serial.proofs.laws.drive_law.Goals as goal

pub returns : goal.returns
returns c = drive_is_serial
