use Rattle.engine_monitor.proofs.Opening.{named_as}
use Rattle.test_pool.proofs.batches.run_batches.Goals as goal

pub batch_opened-requires : goal.batch_opened-requires
batch_opened-requires g c = record { named = named_as c.in_ok-opened.opened }
