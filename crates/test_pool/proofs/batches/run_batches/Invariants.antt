use Rattle.std.proofs.Common.{length}
use Rattle.engine_monitor.specs.Opened.{agreement_name}
use Rattle.test_pool.proofs.batches.run_batches.Given as goal

-- the engine's names are those of what was just opened
abbrev pub ghosts-batch_opened : goal.ghosts-batch_opened
ghosts-batch_opened g a = record {
  start = a.opened.start;
  entries = a.opened.entries;
  marks = a.opened.marks;
  names = agreement_name a.opened;
  sessions = length a.opened.sessions;
}
