use Rattle.std.proofs.Common.{take, flat_map}
use Rattle.std.specs.Io.KnownBytes.{Appends}
use Rattle.shell_scripts.specs.Looked.{told_so}
use Rattle.shell_scripts.proofs.line_result.print_all_told.Given as goal

-- those so far are written
abbrev pub invariant-loop-out : goal.invariant-loop-out
invariant-loop-out g l =
    Appends (g.W.Write.contents l.initial.writer) (g.W.Write.contents l.writer)
    (flat_map (told_so l.looks.scans.items) (take l.out-index l.outs))
