use Rattle.dc_store.proofs.Restarting.{beginnings}
use Rattle.dc_store.proofs.laws.beginning_law.Goals as goal

pub returns : goal.returns
returns c = beginnings
