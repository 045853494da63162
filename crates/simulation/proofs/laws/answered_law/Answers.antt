use Rattle.simulation.proofs.Falling.{asked_is_committed, entries_last}
use Rattle.simulation.proofs.laws.answered_law.Goals as goal

pub returns : goal.returns
returns c = record { entries = entries_last; asked = asked_is_committed }
