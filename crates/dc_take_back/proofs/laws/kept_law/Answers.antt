use Rattle.dc_take_back.proofs.Kept.{answered_kept}
use Rattle.dc_take_back.proofs.laws.kept_law.Goals as goal

pub returns : goal.returns
returns c = answered_kept
