use Rattle.log_laws.proofs.Strict.{one_at_a_time}
use Rattle.log_laws.proofs.laws.one_at_a_time_law.Goals as goal

pub returns : goal.returns
returns c = one_at_a_time
