use Rattle.dc_recovery.proofs.Presence.{have_shape}
use Rattle.dc_recovery.proofs.laws.recovery_law.Goals as goal

pub returns : goal.returns
returns c = have_shape
