use Rattle.std.proofs.Common.{rules}
use Rattle.log_blocks.specs.Blocks.{pairs_summed}
use Rattle.log_blocks.proofs.sums.sum_pairs.Goals as goal

pub returns : goal.returns
unfolding pairs_summed
returns c = rw c.checksum_of-first.ensures (search rules)
