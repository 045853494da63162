use Rattle.tc_rewriting.proofs.Rows.{writes_are_right}
use Rattle.tc_rewriting.proofs.laws.writing_law.Goals as goal

pub returns : goal.returns
returns c = writes_are_right
