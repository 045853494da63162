use Rattle.dc_recovery.proofs.Example.{example_holds}
use Rattle.dc_recovery.proofs.laws.example_law.Goals as goal

pub returns : goal.returns
returns c = example_holds
