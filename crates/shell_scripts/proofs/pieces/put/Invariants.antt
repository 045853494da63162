use Rattle.std.proofs.Common.{◌≡◌, ℕ, List, ◌++◌}
use Rattle.std.specs.Io.KnownBytes.{Appends}
use Rattle.shell_scripts.proofs.pieces.put.Given as goal

-- what is written so far, and then what is left, is all
abbrev pub invariant-loop : goal.invariant-loop
invariant-loop g l = (written : List ℕ) × (l.bytes ≡ written ++ l.left)
    × Appends (g.W.Write.contents l.initial.writer) (g.W.Write.contents l.writer) written
