use Rattle.std.proofs.Common.{length}
use Rattle.engine_monitor.specs.Opened.{agreement_name}
use Rattle.test_pool.proofs.renewing.successor.Given as goal

-- the engine's names are those of what was just opened
abbrev pub ghosts-successor_of : goal.ghosts-successor_of
ghosts-successor_of g a = record {
  start = a.opened.start;
  entries = a.opened.entries;
  marks = a.opened.marks;
  names = agreement_name a.opened;
  sessions = length a.opened.sessions;
}
