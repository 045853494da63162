use Rattle.tc_rewriting.proofs.Alone.{row_writes}
use Rattle.tc_rewriting.proofs.laws.insert_law.Goals as goal

pub returns : goal.returns
returns c = row_writes
