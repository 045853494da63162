use Rattle.std.proofs.Common.{◌≡◌, ◌+◌, ℕ, length}
use Rattle.std.specs.List.{All}
use Rattle.std.specs.Map.{keys_of}
use Rattle.tc_log.specs.Replay.{OpenAt}
use Rattle.tc_restart.specs.Heaps.{IsHeaped, seen}
use Rattle.tc_restart.proofs.Taking.{AreWith}
use Rattle.tc_restart.proofs.work.losers_of.Given as goal

abbrev pub invariant-loop-txn : goal.invariant-loop-txn
invariant-loop-txn g l = record {
  kept : IsHeaped l.heaps (length l.txn-iterator);
  below : l.heaps.below ≡ length l.frames.records + 1;
  so_far : AreWith l.frames.records (length l.frames.records + 1) (keys_of l.txn-iterator) (seen l.heaps);
  each : All (λ (e : ℕ × ℕ). OpenAt l.frames.records e.0 e.1) l.txn-iterator;
}
