-- What is found where a block stands.
use Rattle.std.specs.Prelude.{◌≡◌, ◌+◌, ◌≤◌, ℕ, List, ◌++◌, length, drop}
use Rattle.log_blocks.specs.declared.before.Before.{Before}
use Rattle.log_blocks.specs.declared.block.Block.{Block}
use Rattle.log_blocks.specs.Blocks.{Write, start_of, bytes_of, head_len, block_of, past, CanStand}

-- the block of this write
abbrev pub found : Before → Write → Block
found before w = record {
  start = start_of w;
  from = before.place + head_len w;
  len = length (bytes_of w);
  after = past before w;
}

-- it stands in front
pub record IsFound (before : Before) (left : List ℕ) (len : ℕ) (block : Block) : Type 0 where
  pub w : Write
  pub stands : CanStand before w
  pub within : start_of w ≤ len
  pub block_is : block ≡ found before w
  pub here : left ≡ block_of before w ++ drop (head_len w + length (bytes_of w)) left
