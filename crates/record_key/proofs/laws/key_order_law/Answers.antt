use Rattle.record_key.proofs.KeyOrder.{is_key_order}
use Rattle.record_key.proofs.laws.key_order_law.Goals as goal

pub returns : goal.returns
returns c = is_key_order
