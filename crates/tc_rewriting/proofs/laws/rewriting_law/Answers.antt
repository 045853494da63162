use Rattle.tc_rewriting.proofs.Tables.{rewriting_keeps}
use Rattle.tc_rewriting.proofs.laws.rewriting_law.Goals as goal

pub returns : goal.returns
returns c = rewriting_keeps
