use Rattle.std.proofs.Common.{◌≡◌, ◌≤◌, ◌-◌, List, length}
use Rattle.log_blocks.specs.Blocks.{Write, Keeps, beginning}
use Rattle.log_blocks.proofs.Reading.{Reads, IsRead}
use Rattle.log_blocks.proofs.block.unpack.Given as goal

abbrev pub invariant-loop-block : goal.invariant-loop-block
invariant-loop-block l = record {
  len_within : l.len ≤ l.before.place;
  end_within : l.before.place ≤ length l.file;
  room : length l.file ≡ length l.initial.file;
  reads : (ws : List Write) → Keeps l.fn.store l.initial.file ws → Reads ws (beginning l.fn.store) l.file l.len l.before;
  found : (ws : List Write) × IsRead l.fn.store ws l.initial.file l.file l.len l.before;
}

abbrev pub decreases-loop-block : goal.decreases-loop-block
decreases-loop-block l = length l.file - l.before.place
