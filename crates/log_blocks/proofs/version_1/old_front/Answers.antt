use Rattle.std.proofs.lemmas.List.{append-nil}
use Rattle.log_blocks.specs.Blocks.{number, old_sealed}
use Rattle.log_blocks.proofs.version_1.old_front.Goals as goal

pub returns : goal.returns
unfolding number old_sealed
returns c =
    rw (c.copy_from_slice.ensures.after, c.digest-seal.ensures, c.to_be_bytes.ensures, c.write_u64-2.ensures, c.write_u64.ensures)
    (simp append-nil)
