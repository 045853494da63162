use Rattle.simulation.proofs.Committing.{runs_have_begun, stood_for_have_begun}
use Rattle.simulation.proofs.laws.begun_law.Goals as goal

pub returns : goal.returns
returns c = record { runs = runs_have_begun; stood_for = stood_for_have_begun }
