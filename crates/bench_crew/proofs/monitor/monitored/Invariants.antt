use Rattle.std.proofs.Common.{length}
use Rattle.engine_monitor.specs.Opened.{agreement_name}
use Rattle.bench_crew.proofs.monitor.monitored.Given as goal

-- the engine's names are those of what was just opened
abbrev pub ghosts-monitored_in : goal.ghosts-monitored_in
ghosts-monitored_in g a = record {
  start = a.opened.start;
  entries = a.opened.entries;
  marks = a.opened.marks;
  names = agreement_name a.opened;
  sessions = length a.opened.sessions;
}
