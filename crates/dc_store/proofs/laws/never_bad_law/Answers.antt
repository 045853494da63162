use Rattle.dc_store.proofs.Restarting.{never_bad}
use Rattle.dc_store.proofs.laws.never_bad_law.Goals as goal

pub returns : goal.returns
returns c = never_bad
