use Rattle.std.proofs.Common.{ℕ, ◌*◌, ◌/◌, length, drop}
use Rattle.std.proofs.lemmas.List.{take_rest, drop-replicate}
use Rattle.log_blocks.specs.Blocks.{summed}
use Rattle.log_blocks.proofs.sums.sum_all.Goals as goal

pub returns : goal.returns
unfolding summed
returns c =
    let whole = length c.args.bytes.now / 8 * 8 in
    let rest = take_rest c.args.bytes.now whole in
    let zeros = drop-replicate {X = ℕ} (length (drop whole c.args.bytes.now)) 8 0 in
    rw (c.sum_pairs-2.ensures, c.sum_pairs.ensures, c.copy_from_slice.ensures.after, rest, zeros)
