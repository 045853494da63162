use Rattle.std.proofs.Common.{◌≡◌, ◌∙◌, ◌≤◌, sym, ap, subst, length, arith}
use Rattle.std.specs.Ordering.{nat_cmp}
use Rattle.std.specs.Cmp.Lexicographic.{slice_cmp}
use Rattle.record_key.specs.Rows.{Row}
use Rattle.codec.proofs.RowsLeft.{IsAbove, none_left, rest_is, ends, stands, belongs, one_above}
use Rattle.codec.proofs.lent_rows.LentRows.place_of.Goals as goal

pub unreachable-requires : goal.unreachable-requires
unreachable-requires c =
    let few : length c.args.self.now ≤ c.loop-at.at =
    none_left c.args.self.now c.loop-at.rest c.loop-at.at c.loop-at.invariant.0 c.in_default.ensures.end in
    omega (arith, few, c.loop-at-test.true, c.len-count.ensures)

pub loop-at-preserved : goal.loop-at-preserved
loop-at-preserved c =
    let so_far = c.loop-at.invariant in
    let row : Row = (c.in-Some.text.now, c.in-Some.field-0-1.now) in
    let rest = c.next_texts.new.self in (
      rest_is c.args.self.now c.loop-at.rest c.loop-at.at so_far.0 row rest c.in-Some.ensures.row,
      one_above c.args.key.now c.args.self.now c.loop-at.rest c.loop-at.at so_far.0 so_far.1 row rest
          c.in-Some.ensures.row
          (ap (slice_cmp nat_cmp row.0) (sym c.as_bytes.ensures.bytes) ∙ sym c.order_of_texts.ensures ∙ c.in-Less.is),
    )

pub returns-in-Equal-clause-place : goal.returns-in-Equal-clause-place
returns-in-Equal-clause-place c =
    let so_far = c.loop-at.invariant in
    let row : Row = (c.in-Some.text.now, c.in-Some.field-0-1.now) in
    stands c.args.key.now c.args.self.now c.loop-at.rest c.loop-at.at so_far.0 so_far.1 row c.next_texts.new.self
    c.in-Some.ensures.row
    (ap (slice_cmp nat_cmp row.0) (sym c.as_bytes.ensures.bytes) ∙ sym c.order_of_texts.ensures ∙ c.in-Equal.is)

pub returns-in-Greater-clause-place : goal.returns-in-Greater-clause-place
returns-in-Greater-clause-place c =
    let so_far = c.loop-at.invariant in
    let row : Row = (c.in-Some.text.now, c.in-Some.field-0-1.now) in
    belongs c.args.key.now c.args.self.now c.loop-at.rest c.loop-at.at so_far.0 so_far.1 row c.next_texts.new.self
    c.in-Some.ensures.row
    (ap (slice_cmp nat_cmp row.0) (sym c.as_bytes.ensures.bytes) ∙ sym c.order_of_texts.ensures ∙ c.in-Greater.is)

pub returns-clause-place : goal.returns-clause-place
returns-clause-place c =
    let at_end : c.loop-at.at ≡ c.len-count.result = omega arith in
    ends c.args.key.now c.args.self.now c.len-count.result c.len-count.ensures
    (subst (IsAbove c.args.key.now c.args.self.now) at_end c.loop-at.invariant.1)
