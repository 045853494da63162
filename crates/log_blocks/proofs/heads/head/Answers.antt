use Rattle.std.proofs.Common.{◌≡◌, ℕ, List, [], ◌++◌, length, refl, arith}
use Rattle.std.proofs.lemmas.List.{append-nil, take_at, drop_at, drop_all}
use borrow.Rule.Slice.PartMut.{put_mid}
use Rattle.log_blocks.specs.Blocks.{number, sealed}
use Rattle.log_blocks.proofs.Parts.{length-sealed}
use Rattle.log_blocks.proofs.heads.head.Goals as goal

-- the checksum, once the front is written
sum_written : (front room sum : List ℕ) → length front ≡ 24 → length room ≡ 8 → put_mid 24 8 (front ++ room) sum ≡ front ++ sum
sum_written front room sum long eight =
    let none : _ ≡ [] = drop_all 8 room (omega arith) in
    rw (take_at front room 24 long, drop_at front room 24 long, none) (simp append-nil)

pub returns-clause-head : goal.returns-clause-head
unfolding number
returns-clause-head c =
    rw (c.copy_from_slice-2.ensures.after, c.copy_from_slice.ensures.after, c.front-seal.ensures.front, c.to_be_bytes.ensures, c.sum_all-sum.ensures, c.front-seal.ensures.seal)
    (sum_written (sealed c.args.sum c.args.start (length c.args.bytes.now)) _ _ (length-sealed _ _ _) refl)
