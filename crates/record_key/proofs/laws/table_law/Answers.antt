use Rattle.record_key.proofs.KeyOrder.{writes_one_key}
use Rattle.record_key.proofs.laws.table_law.Goals as goal

pub returns : goal.returns
returns c = writes_one_key
