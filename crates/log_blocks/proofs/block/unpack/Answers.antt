use Rattle.std.proofs.Common.{◌≡◌, ◌+◌, ◌≤◌, List, [], ◌∷◌, ◌++◌, length, drop, Some, None, Ok, Err, sym, ap, subst, refl, ◌∙◌, arith, rules}
use Rattle.std.proofs.lemmas.List.{length-drop, take_rest}
use Rattle.log_blocks.specs.Blocks.{Write, Keeps, EndsWithin, beginning, IsDamaged}
use Rattle.log_blocks.proofs.Reading.{Looks, ReadsAll, reads_start, reads_next, never_damaged, reads_all, none_read, block_read, file_read, file_refused}
use Rattle.log_blocks.proofs.block.unpack.Goals as goal

pub loop-block-init : goal.loop-block-init
loop-block-init c = record {
  len_within = search rules;
  end_within = search rules;
  room = search rules;
  reads = λ ws kept. reads_start ws c.args.store _ kept;
  found = ([], none_read c.args.store _);
}

pub loop-block-preserved : goal.loop-block-preserved
loop-block-preserved c =
    let file = c.loop-block.file in
    let before = c.loop-block.before in
    let some : c.block_at.result ≡ Ok (Some c.in-Some.block) = c.in_ok-block.was ∙ ap Ok c.in-Some.is in
    let rest = take_rest file before.place in
    let start = rw c.in-Some.is at c.in_ok-block.ensures.start in
    let from = rw c.in-Some.is at c.in_ok-block.ensures.from in
    let to = rw c.in-Some.is at c.in_ok-block.ensures.to in
    let end = rw c.in-Some.is at c.in_ok-block.ensures.end in
    let room : c.in-Some.block.after.place ≤ length c.loop-block.file =
    omega (arith, end, ap length rest, length-drop before.place file, c.loop-block.invariant.end_within) in
    record {
      len_within = omega (arith, start, from, to, c.loop-block.invariant.len_within);
      end_within = search rules;
      room = search rules;
      reads = λ ws kept.
          let looks : Looks c.loop-block.file c.loop-block.len c.loop-block.before c.block_at.result = record {
            whole = λ w more here. c.block_at.ensures.whole w more (rest ∙ here);
            ends = λ ends. c.block_at.ensures.ends (subst (EndsWithin before) (sym rest) ends);
          } in
          let reads = c.loop-block.invariant.reads ws kept in
          reads_next reads.0 ws (beginning c.args.store) _ _ _ _ _ c.in-Some.block looks reads.1 some
          c.loop-block.invariant.len_within room c.copy_within.ensures.after;
      found =
          let read = c.loop-block.invariant.found in
          let is = rw c.in-Some.is at c.in_ok-block.ensures.right in (
            _,
            block_read c.args.store read.0 _ _ _ _ _ _ c.in-Some.block read.1 c.loop-block.invariant.len_within room rest is
                c.copy_within.ensures.after,
          );
    }

-- a file that was kept isn't refused
not_damaged : (c : goal.After-from_residual) (ws : List Write) → Keeps c.args.store c.args.file.now ws → ⊥
not_damaged c ws kept =
    let before = c.loop-block.before in
    let rest = take_rest c.loop-block.file before.place in
    let looks : Looks c.loop-block.file c.loop-block.len c.loop-block.before c.block_at.result = record {
      whole = λ w more here. c.block_at.ensures.whole w more (rest ∙ here);
      ends = λ ends. c.block_at.ensures.ends (subst (EndsWithin before) (sym rest) ends);
    } in
    let err : c.block_at.result ≡ Err _ = c.in_err-block.was in
    let reads = c.loop-block.invariant.reads ws kept in
    never_damaged reads.0 ws (beginning c.args.store) _ _ _ _ _ looks reads.1 err

-- behind the loop all of it is read
all_read : (c : goal.In_default) (ws : List Write) → Keeps c.args.store c.args.file.now ws
    → ReadsAll ws (beginning c.args.store) c.loop-block.file c.loop-block.len c.loop-block.before
all_read c ws kept =
    let before = c.loop-block.before in
    let rest = take_rest c.loop-block.file before.place in
    let looks : Looks c.loop-block.file c.loop-block.len c.loop-block.before c.block_at.result = record {
      whole = λ w more here. c.block_at.ensures.whole w more (rest ∙ here);
      ends = λ ends. c.block_at.ensures.ends (subst (EndsWithin before) (sym rest) ends);
    } in
    let none : c.block_at.result ≡ Ok None = c.in_ok-block.was ∙ ap Ok c.in_default.is in
    let reads = c.loop-block.invariant.reads ws kept in
    reads_all reads.0 ws (beginning c.args.store) _ _ _ _ looks reads.1 (omega arith) none

pub returns-in_err-block-clause-read : goal.returns-in_err-block-clause-read
returns-in_err-block-clause-read c ws kept = absurd (not_damaged c ws kept)

pub returns-in_err-block-clause-log : goal.returns-in_err-block-clause-log
returns-in_err-block-clause-log c ws kept = absurd (not_damaged c ws kept)

pub returns-clause-read : goal.returns-clause-read
returns-clause-read c ws kept = let all = all_read c ws kept in rw (all.len_is, all.end_is, all.sum_is) refl

pub returns-clause-log : goal.returns-clause-log
returns-clause-log c ws kept = let all = all_read c ws kept in rw (← all.len_is) all.log

pub returns-in_err-block-clause-refused : goal.returns-in_err-block-clause-refused
returns-in_err-block-clause-refused c =
    let before = c.loop-block.before in
    let rest = take_rest c.loop-block.file before.place in
    let looks : Looks c.loop-block.file c.loop-block.len c.loop-block.before c.block_at.result = record {
      whole = λ w more here. c.block_at.ensures.whole w more (rest ∙ here);
      ends = λ ends. c.block_at.ensures.ends (subst (EndsWithin before) (sym rest) ends);
    } in
    let read = c.loop-block.invariant.found in
    let damaged = file_refused c.args.store read.0 _ _ _ _ c.block_at.result _ read.1 (omega arith) looks c.in_err-block.was in
    let is : c.from_residual.result ≡ Err c.in_err-block.field-0.0 = search rules in
    rw is (subst (IsDamaged c.args.store c.args.file.now) (sym c.in_err-block.ensures.refused) damaged)

pub returns-clause-unpacked : goal.returns-clause-unpacked
returns-clause-unpacked c =
    let before = c.loop-block.before in
    let none : c.block_at.result ≡ Ok None = c.in_ok-block.was ∙ ap Ok c.in_default.is in
    let read = c.loop-block.invariant.found in
    file_read c.args.store read.0 _ _ _ _ read.1 (omega arith)
    (subst (EndsWithin before) (take_rest c.loop-block.file before.place) (c.block_at.ensures.none none))
