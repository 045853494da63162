use Rattle.std.proofs.Common.{take, flat_map}
use Rattle.std.specs.Io.KnownBytes.{Appends}
use Rattle.shell_scripts.specs.Stored.{leaf_line}
use Rattle.shell_scripts.specs.View.{leaves_shown}
use Rattle.shell_scripts.proofs.shown.print_each_leaf.Given as goal

-- the leaves so far are written
abbrev pub invariant-loop-place : goal.invariant-loop-place
invariant-loop-place g l =
    Appends (g.W.Write.contents l.initial.writer) (g.W.Write.contents l.writer)
    (flat_map leaf_line (take l.place (leaves_shown l.world)))
