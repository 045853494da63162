use Rattle.dc_recovery.proofs.Images.{numbers_stay}
use Rattle.dc_recovery.proofs.laws.numbers_law.Goals as goal

pub returns : goal.returns
returns c = numbers_stay
