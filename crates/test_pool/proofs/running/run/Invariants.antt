use Rattle.std.proofs.Common.{length}
use Rattle.engine_workers.specs.Opened.{agreement_name}
use Rattle.test_pool.proofs.running.run.Given as goal

-- the engine's names are those of what was just opened
abbrev pub ghosts-run_opened : goal.ghosts-run_opened
ghosts-run_opened g a = record {
  start = a.opened.start;
  entries = a.opened.entries;
  marks = a.opened.marks;
  names = agreement_name a.opened;
  sessions = length a.opened.sessions;
}
