use Rattle.dc_recovery.proofs.Readable.{readable}
use Rattle.dc_recovery.proofs.laws.readable_law.Goals as goal

pub returns : goal.returns
returns c = readable
