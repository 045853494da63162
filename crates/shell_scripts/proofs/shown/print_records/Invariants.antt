use Rattle.std.specs.Io.KnownBytes.{Appends}
use Rattle.shell_scripts.specs.Logged.{lines_to}
use Rattle.shell_scripts.specs.View.{log_shown}
use Rattle.shell_scripts.proofs.shown.print_records.Given as goal

-- the records so far are written
abbrev pub invariant-loop-before : goal.invariant-loop-before
invariant-loop-before g l =
    Appends (g.W.Write.contents l.initial.writer) (g.W.Write.contents l.writer) (lines_to (log_shown l.world) l.before)
