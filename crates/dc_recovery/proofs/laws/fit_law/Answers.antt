use Rattle.dc_recovery.proofs.Fitting.{fit_stays}
use Rattle.dc_recovery.proofs.laws.fit_law.Goals as goal

pub returns : goal.returns
returns c = fit_stays
