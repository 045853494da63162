use Rattle.dc_store.proofs.Checked.{crashed_checked}
use Rattle.dc_store.proofs.Checkpointed.{checkpoint_reaches}
use Rattle.dc_store.proofs.laws.checkpoint_law.Goals as goal

pub returns : goal.returns
returns c = record { reaches = checkpoint_reaches; lasts = crashed_checked }
