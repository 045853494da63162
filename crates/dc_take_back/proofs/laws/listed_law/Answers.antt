use Rattle.dc_take_back.proofs.Listed.{taken_replayed}
use Rattle.dc_take_back.proofs.laws.listed_law.Goals as goal

pub returns : goal.returns
returns c = taken_replayed
