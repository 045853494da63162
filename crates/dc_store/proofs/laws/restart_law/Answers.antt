use Rattle.dc_store.proofs.Restarting.{restarts}
use Rattle.dc_store.proofs.laws.restart_law.Goals as goal

pub returns : goal.returns
returns c = restarts
