use Rattle.std.proofs.Common.{◌≡◌, drop}
use Rattle.shell_pool.specs.PoolText.{reads_text}
use Rattle.shell_pool.proofs.Reading.{IsSoFar}
use Rattle.shell_pool.proofs.shown.print_reads.Given as goal

-- the lines of those so far are written
abbrev pub invariant-loop-value : goal.invariant-loop-value
invariant-loop-value g l = record {
  count : l.client ≡ l.value-index;
  so_far : IsSoFar (g.W.Write.contents l.initial.writer) (g.W.Write.contents l.writer) (reads_text 0 l.values)
      (reads_text l.client (drop l.value-index l.values));
}
