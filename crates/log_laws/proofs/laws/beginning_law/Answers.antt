use Rattle.log_laws.proofs.LegalLogs.{legal_end, right_end}
use Rattle.log_laws.proofs.laws.beginning_law.Goals as goal

pub returns : goal.returns
returns c = record { legal = legal_end; right = right_end }
