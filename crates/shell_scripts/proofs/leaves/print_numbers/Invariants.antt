use Rattle.std.proofs.Common.{◌-◌, ◌<◌, take, drop, flat_map}
use Rattle.std.specs.Io.KnownBytes.{Appends}
use Rattle.shell_scripts.specs.Stored.{further_number}
use Rattle.shell_scripts.proofs.leaves.print_numbers.Given as goal

-- those so far are written
abbrev pub invariant-loop-at : goal.invariant-loop-at
invariant-loop-at g l = (0 < l.at)
    × Appends (g.W.Write.contents l.initial.writer) (g.W.Write.contents l.writer)
    (flat_map further_number (take (l.at - 1) (drop 1 l.entries)))
