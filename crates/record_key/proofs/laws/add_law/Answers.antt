use Rattle.record_key.proofs.Adds.{adds_commute}
use Rattle.record_key.proofs.laws.add_law.Goals as goal

pub returns : goal.returns
returns c = adds_commute
