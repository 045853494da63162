use Rattle.dc_recovery.proofs.Halves.{halves_fit}
use Rattle.dc_recovery.proofs.laws.halves_law.Goals as goal

pub returns : goal.returns
returns c = halves_fit
