use Rattle.std.proofs.Common.{ℕ, List, ◌++◌, option_map}
use Rattle.std.specs.Io.KnownBytes.{Appends}
use Rattle.shell_scripts.specs.Labels.{bindings}
use Rattle.shell_scripts.specs.Script.{size_left, parts_left, lines_from, commands_of}
use Rattle.shell_scripts.specs.Text.{Runs, status_after}
use Rattle.shell_scripts.proofs.script_run.run_from.Given as goal

-- what is written so far, and then what the lines that are left write, is what all lines write
abbrev pub invariant-loop-left : goal.invariant-loop-left
invariant-loop-left g l = record {
  so_far : List ℕ;
  appended : Appends (g.W.Write.contents l.initial.writer) (g.W.Write.contents l.writer) so_far;
  goes_on : (text : List ℕ) (status : ℕ)
      → Runs l.fn.continues (commands_of (parts_left 10 (option_map (λ s. s.now) l.left))) l.shell.world (bindings l.shell.labels)
      text status
      → Runs l.fn.continues (commands_of (lines_from l.fn.script)) l.initial.shell.world (bindings l.initial.shell.labels)
      (so_far ++ text) (status_after l.has_failed status);
}

abbrev pub decreases-loop-left : goal.decreases-loop-left
decreases-loop-left g l = size_left (option_map (λ s. s.now) l.left)
