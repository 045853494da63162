use Rattle.dc_take_back.proofs.Performed.{back_replayed}
use Rattle.dc_take_back.proofs.laws.performed_law.Goals as goal

pub returns : goal.returns
returns c = back_replayed
