use Rattle.std.proofs.Common.{length}
use Rattle.engine_workers.specs.Opened.{agreement_name}
use Rattle.bench_crew.proofs.engine.measured.Given as goal

-- the engine's names are those of what was just opened
abbrev pub ghosts-measured_in : goal.ghosts-measured_in
ghosts-measured_in g a = record {
  start = a.opened.start;
  entries = a.opened.entries;
  marks = a.opened.marks;
  names = agreement_name a.opened;
  sessions = length a.opened.sessions;
}
