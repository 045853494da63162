use Rattle.std.proofs.Common.{take, flat_map}
use Rattle.std.specs.Io.KnownBytes.{Appends}
use Rattle.shell_scripts.specs.Told.{committed_line}
use Rattle.shell_scripts.proofs.told.print_committed.Given as goal

-- those so far are written
abbrev pub invariant-loop-txn : goal.invariant-loop-txn
invariant-loop-txn g l =
    Appends (g.W.Write.contents l.initial.writer) (g.W.Write.contents l.writer)
    (flat_map committed_line (take l.txn-index l.committed))
