use Rattle.simulation.proofs.Lasting.{commits_last}
use Rattle.simulation.proofs.Committing.{told_is_committed, stable_is_committed}
use Rattle.simulation.proofs.laws.lasting_law.Goals as goal

pub returns : goal.returns
returns c = record { last = commits_last; told = told_is_committed; stable = stable_is_committed }
