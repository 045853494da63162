use Rattle.std.proofs.Common.{◌≡◌, ◌+◌, ◌<◌, ◌^◌, Bool, true, false, ℕ, List, length, take, drop, replicate, sym, ap, subst, refl, ◌∙◌, arith, rules, eqb}
use Rattle.std.proofs.lemmas.List.{length-drop, length-take, length-replicate}
use Rattle.log_blocks.specs.Blocks.{New, number, sealed, sum_of}
use Rattle.log_blocks.proofs.Accepts.{has_front, new_start_fits, ends_within, block_again}
use Rattle.log_blocks.proofs.Parts.{front_begins, new_reads, new_whole, new_sum, sum_right}
use Rattle.log_blocks.proofs.block.new_block.Goals as goal
use Rattle.log_blocks.proofs.block.new_block.Goals.{then-len-start-via-then-len-start, then-len-start-via-else-len-start+then-not-ends_with}

pub returns-then-not-starts_with-clause-whole : goal.returns-then-not-starts_with-clause-whole
returns-then-not-starts_with-clause-whole c start bytes rest here fits within =
    let whole = new_whole c.args.before start bytes rest _ _ _ _ _ _ _ here fits (omega arith) c.split_at.ensures.front
    c.split_at.ensures.back c.read_uint-start.ensures c.read_u64-size.ensures c.front-seal.ensures.front
    c.starts_with.ensures.value in
    let right : c.starts_with.result ≡ true = whole.reads.right in
    cc

pub returns-then-bytes-size-clause-whole : goal.returns-then-bytes-size-clause-whole
returns-then-bytes-size-clause-whole c start bytes rest here fits within =
    let whole = new_whole c.args.before start bytes rest _ _ _ _ _ _ _ here fits (omega arith) c.split_at.ensures.front
    c.split_at.ensures.back c.read_uint-start.ensures c.read_u64-size.ensures c.front-seal.ensures.front
    c.starts_with.ensures.value in
    absurd (omega (arith, whole.reads.len_is, whole.room, c.if-bytes-size.true))

pub returns-then-len-start-clause-whole : goal.returns-then-len-start-clause-whole
unfolding number
returns-then-len-start-clause-whole c start bytes rest here fits within =
    let whole = new_whole c.args.before start bytes rest _ _ _ _ _ _ _ here fits (omega arith) c.split_at.ensures.front
    c.split_at.ensures.back c.read_uint-start.ensures c.read_u64-size.ensures c.front-seal.ensures.front
    c.starts_with.ensures.value in
    let sum = new_sum c.args.before start bytes rest _ _ _ _ _ _ _ whole c.front-seal.ensures.seal c.sum_all-sum.ensures in
    elim c.then-len-start.branch [
      | then-len-start-via-then-len-start late ↦ absurd (omega (arith, within, whole.reads.start_is, late.if-len-start.true))
      | then-len-start-via-else-len-start+then-not-ends_with wrong ↦
          let right : wrong.ends_with.result ≡ true =
          sum_right _ (number (sum_of c.args.before.sum start bytes)) _ _ _ whole.parted.head_is
          (wrong.to_be_bytes.ensures ∙ ap number sum) wrong.ends_with.ensures.value in
          let different : wrong.ends_with.result ≡ false = wrong.if-not-ends_with.true in
          cc
    ]

pub returns-clause-whole : goal.returns-clause-whole
returns-clause-whole c start bytes rest here fits within =
    let whole = new_whole c.args.before start bytes rest _ _ _ _ _ _ _ here fits (omega arith) c.split_at.ensures.front
    c.split_at.ensures.back c.read_uint-start.ensures c.read_u64-size.ensures c.front-seal.ensures.front
    c.starts_with.ensures.value in
    let sum = new_sum c.args.before start bytes rest _ _ _ _ _ _ _ whole c.front-seal.ensures.seal c.sum_all-sum.ensures in
    rw (sum, whole.reads.start_is, whole.reads.len_is) refl

pub returns-then-not-starts_with-clause-ends : goal.returns-then-not-starts_with-clause-ends
returns-then-not-starts_with-clause-ends c start bytes first fits fits_len short =
    let begins = front_begins 32 _ _ _ first c.split_at.ensures.front (omega arith) in
    let reads = new_reads c.args.before.sum start (length bytes) _ _ _ _ _ _ begins fits fits_len c.read_uint-start.ensures
    c.read_u64-size.ensures c.front-seal.ensures.front c.starts_with.ensures.value in
    let right : c.starts_with.result ≡ true = reads.right in
    cc

pub returns-then-len-start-clause-ends : goal.returns-then-len-start-clause-ends
returns-then-len-start-clause-ends c start bytes first fits fits_len short =
    let begins = front_begins 32 _ _ _ first c.split_at.ensures.front (omega arith) in
    let reads = new_reads c.args.before.sum start (length bytes) _ _ _ _ _ _ begins fits fits_len c.read_uint-start.ensures
    c.read_u64-size.ensures c.front-seal.ensures.front c.starts_with.ensures.value in
    absurd (omega (arith, reads.len_is, short, c.if-bytes-size.false, ap length c.split_at.ensures.back, length-drop 32 c.args.left.now))

pub returns-clause-ends : goal.returns-clause-ends
returns-clause-ends c start bytes first fits fits_len short =
    let begins = front_begins 32 _ _ _ first c.split_at.ensures.front (omega arith) in
    let reads = new_reads c.args.before.sum start (length bytes) _ _ _ _ _ _ begins fits fits_len c.read_uint-start.ensures
    c.read_u64-size.ensures c.front-seal.ensures.front c.starts_with.ensures.value in
    absurd (omega (arith, reads.len_is, short, c.if-bytes-size.false, ap length c.split_at.ensures.back, length-drop 32 c.args.left.now))

pub returns-then-bytes-size-clause-none : goal.returns-then-bytes-size-clause-none
returns-then-bytes-size-clause-none c none =
    let right : c.starts_with.result ≡ true = cc in
    let start = c.read_uint-start.result in
    let bytes : List ℕ = replicate c.read_u64-size.result 0 in
    let size : length bytes ≡ c.read_u64-size.result = length-replicate c.read_u64-size.result 0 in
    let fits = new_start_fits 32 start c.args.left.now _ (search rules) c.split_at.ensures.front c.read_uint-start.ensures in
    let front = c.front-seal.ensures.front ∙ ap (sealed c.args.before.sum start) (sym size) in
    let is = has_front c.args.left.now _ _ _ _ 32 _ c.split_at.ensures.front c.split_at.ensures.back c.requires.head (omega arith)
    front c.starts_with.ensures.value right in
    ends_within c.args.before (New start bytes) _ _ _ is (fits, λ old. absurd cc) (omega (arith, size, c.if-bytes-size.true))
    (omega (arith, size, c.read_u64-size.type_inv))

pub returns-clause-right : goal.returns-clause-right
unfolding number
returns-clause-right c =
    let right : c.starts_with.result ≡ true = cc in
    let ended : c.ends_with.result ≡ true = cc in
    let start = c.read_uint-start.result in
    let bytes = take c.read_u64-size.result c.split_at.result.1.now in
    let size : length bytes ≡ c.read_u64-size.result =
    omega (arith, length-take c.read_u64-size.result c.split_at.result.1.now, c.if-bytes-size.false) in
    let fits = new_start_fits 32 start c.args.left.now _ (search rules) c.split_at.ensures.front c.read_uint-start.ensures in
    let front = c.front-seal.ensures.front ∙ ap (sealed c.args.before.sum start) (sym size) in
    let is = has_front c.args.left.now _ _ _ _ 32 _ c.split_at.ensures.front c.split_at.ensures.back c.requires.head (omega arith)
    front c.starts_with.ensures.value right in
    let sum : c.sum_all-sum.result ≡ sum_of c.args.before.sum start bytes =
    c.sum_all-sum.ensures ∙ rw (c.front-seal.ensures.seal, size) refl in
    block_again c.args.before (New start bytes) _ _ _ _ _ _ _ is (fits, λ old. absurd cc) (omega (arith, c.if-len-start.false))
    (omega (arith, size, c.if-bytes-size.false)) (ap (λ (n : ℕ). take n c.split_at.result.1.now) (sym size))
    c.ends_with.ensures.value ended (c.to_be_bytes.ensures ∙ ap number sum) (rw (sum, size) refl)
