use Rattle.std.proofs.Common.{◌≡◌, ◌+◌, ◌<◌, ◌^◌, Bool, true, false, ℕ, List, length, take, drop, replicate, sym, ap, subst, refl, ◌∙◌, arith, rules, eqb}
use Rattle.std.proofs.lemmas.List.{length-drop, length-take, length-replicate}
use Rattle.log_blocks.specs.Blocks.{Old, old_sealed, old_sum}
use Rattle.log_blocks.proofs.Accepts.{has_front, old_start_fits, ends_within, block_again}
use Rattle.log_blocks.proofs.Parts.{front_begins, old_reads, old_whole, old_sum_is, sum_right, whole_length}
use Rattle.log_blocks.proofs.block.old_block.Goals as goal
use Rattle.log_blocks.proofs.block.old_block.Goals.{then-len-start-via-then-len-start, then-len-start-via-else-len-start+then-not-ends_with}

pub returns-then-left-lt-OLD_HEAD_LEN-clause-whole : goal.returns-then-left-lt-OLD_HEAD_LEN-clause-whole
returns-then-left-lt-OLD_HEAD_LEN-clause-whole c start bytes rest here fits within =
    absurd (omega (arith, whole_length c.args.before (Old start bytes) rest c.args.left.now here))

pub returns-then-not-starts_with-clause-whole : goal.returns-then-not-starts_with-clause-whole
returns-then-not-starts_with-clause-whole c start bytes rest here fits within =
    let whole = old_whole c.args.before start bytes rest _ _ _ _ _ _ _ here fits (omega arith) c.split_at.ensures.front
    c.split_at.ensures.back c.read_u64-start.ensures c.read_u64-size.ensures c.old_front-front.ensures
    c.starts_with.ensures.value in
    let right : c.starts_with.result ≡ true = whole.reads.right in
    cc

pub returns-then-bytes-size-clause-whole : goal.returns-then-bytes-size-clause-whole
returns-then-bytes-size-clause-whole c start bytes rest here fits within =
    let whole = old_whole c.args.before start bytes rest _ _ _ _ _ _ _ here fits (omega arith) c.split_at.ensures.front
    c.split_at.ensures.back c.read_u64-start.ensures c.read_u64-size.ensures c.old_front-front.ensures
    c.starts_with.ensures.value in
    absurd (omega (arith, whole.reads.len_is, whole.room, c.if-bytes-size.true))

pub returns-then-len-start-clause-whole : goal.returns-then-len-start-clause-whole
returns-then-len-start-clause-whole c start bytes rest here fits within =
    let whole = old_whole c.args.before start bytes rest _ _ _ _ _ _ _ here fits (omega arith) c.split_at.ensures.front
    c.split_at.ensures.back c.read_u64-start.ensures c.read_u64-size.ensures c.old_front-front.ensures
    c.starts_with.ensures.value in
    let sum = old_sum_is c.args.before start bytes rest _ _ _ _ _ _ _ whole c.old_front-front.ensures c.digest-sum.ensures in
    elim c.then-len-start.branch [
      | then-len-start-via-then-len-start late ↦ absurd (omega (arith, within, whole.reads.start_is, late.if-len-start.true))
      | then-len-start-via-else-len-start+then-not-ends_with wrong ↦
          let right : wrong.ends_with.result ≡ true =
          sum_right _ (old_sum c.args.before.place start bytes) _ _ _ whole.parted.head_is
          sum wrong.ends_with.ensures.value in
          let different : wrong.ends_with.result ≡ false = wrong.if-not-ends_with.true in
          cc
    ]

pub returns-clause-whole : goal.returns-clause-whole
returns-clause-whole c start bytes rest here fits within =
    let whole = old_whole c.args.before start bytes rest _ _ _ _ _ _ _ here fits (omega arith) c.split_at.ensures.front
    c.split_at.ensures.back c.read_u64-start.ensures c.read_u64-size.ensures c.old_front-front.ensures
    c.starts_with.ensures.value in
    let sum = old_sum_is c.args.before start bytes rest _ _ _ _ _ _ _ whole c.old_front-front.ensures c.digest-sum.ensures in
    rw (c.sum_pairs.ensures, sum, whole.reads.start_is, whole.reads.len_is) refl

pub returns-then-not-starts_with-clause-ends : goal.returns-then-not-starts_with-clause-ends
returns-then-not-starts_with-clause-ends c start bytes first fits fits_len short =
    let begins = front_begins 40 _ _ _ first c.split_at.ensures.front (omega arith) in
    let reads = old_reads c.args.before.place start (length bytes) _ _ _ _ _ _ begins fits fits_len c.read_u64-start.ensures
    c.read_u64-size.ensures c.old_front-front.ensures c.starts_with.ensures.value in
    let right : c.starts_with.result ≡ true = reads.right in
    cc

pub returns-then-len-start-clause-ends : goal.returns-then-len-start-clause-ends
returns-then-len-start-clause-ends c start bytes first fits fits_len short =
    let begins = front_begins 40 _ _ _ first c.split_at.ensures.front (omega arith) in
    let reads = old_reads c.args.before.place start (length bytes) _ _ _ _ _ _ begins fits fits_len c.read_u64-start.ensures
    c.read_u64-size.ensures c.old_front-front.ensures c.starts_with.ensures.value in
    absurd (omega (arith, reads.len_is, short, c.if-bytes-size.false, ap length c.split_at.ensures.back, length-drop 40 c.args.left.now))

pub returns-clause-ends : goal.returns-clause-ends
returns-clause-ends c start bytes first fits fits_len short =
    let begins = front_begins 40 _ _ _ first c.split_at.ensures.front (omega arith) in
    let reads = old_reads c.args.before.place start (length bytes) _ _ _ _ _ _ begins fits fits_len c.read_u64-start.ensures
    c.read_u64-size.ensures c.old_front-front.ensures c.starts_with.ensures.value in
    absurd (omega (arith, reads.len_is, short, c.if-bytes-size.false, ap length c.split_at.ensures.back, length-drop 40 c.args.left.now))

pub returns-then-bytes-size-clause-none : goal.returns-then-bytes-size-clause-none
returns-then-bytes-size-clause-none c none =
    let right : c.starts_with.result ≡ true = cc in
    let start = c.read_u64-start.result in
    let bytes : List ℕ = replicate c.read_u64-size.result 0 in
    let size : length bytes ≡ c.read_u64-size.result = length-replicate c.read_u64-size.result 0 in
    let fits = old_start_fits 40 start c.args.left.now _ (search rules) c.split_at.ensures.front (omega arith) c.requires.first c.read_u64-start.ensures in
    let front = c.old_front-front.ensures ∙ ap (old_sealed c.args.before.place start) (sym size) in
    let is = has_front c.args.left.now _ _ _ _ 40 _ c.split_at.ensures.front c.split_at.ensures.back c.if-left-lt-OLD_HEAD_LEN.false (omega arith)
    front c.starts_with.ensures.value right in
    ends_within c.args.before (Old start bytes) _ _ _ is (fits, λ _. c.requires.version) (omega (arith, size, c.if-bytes-size.true))
    (omega (arith, size, c.read_u64-size.type_inv))

pub returns-clause-right : goal.returns-clause-right
returns-clause-right c =
    let right : c.starts_with.result ≡ true = cc in
    let ended : c.ends_with.result ≡ true = cc in
    let start = c.read_u64-start.result in
    let bytes = take c.read_u64-size.result c.split_at.result.1.now in
    let size : length bytes ≡ c.read_u64-size.result =
    omega (arith, length-take c.read_u64-size.result c.split_at.result.1.now, c.if-bytes-size.false) in
    let fits = old_start_fits 40 start c.args.left.now _ (search rules) c.split_at.ensures.front (omega arith) c.requires.first c.read_u64-start.ensures in
    let front = c.old_front-front.ensures ∙ ap (old_sealed c.args.before.place start) (sym size) in
    let is = has_front c.args.left.now _ _ _ _ 40 _ c.split_at.ensures.front c.split_at.ensures.back c.if-left-lt-OLD_HEAD_LEN.false (omega arith)
    front c.starts_with.ensures.value right in
    let sum : c.digest-sum.result ≡ old_sum c.args.before.place start bytes =
    c.digest-sum.ensures ∙ rw (c.old_front-front.ensures, size) refl in
    block_again c.args.before (Old start bytes) _ _ _ _ _ _ _ is (fits, λ _. c.requires.version) (omega (arith, c.if-len-start.false))
    (omega (arith, size, c.if-bytes-size.false)) (ap (λ (n : ℕ). take n c.split_at.result.1.now) (sym size))
    c.ends_with.ensures.value ended sum (rw (c.sum_pairs.ensures, sum, size) refl)
