use Rattle.std.proofs.Common.{[], ◌∙◌, sym}
use Rattle.codec.specs.Reading.{rows_end}
use Rattle.codec.proofs.PackedRows.{goes_on, stops, stops_below, is_done}
use Rattle.codec.proofs.rows.skip_rows.Goals as goal

pub returns-in_default : goal.returns-in_default
returns-in_default c = stops c.args.count c.loop.counter c.loop.before.now c.loop.rest.now
    (rows_end [] c.args.count c.args.bytes.now) c.loop.invariant c.loop-test.true c.in_default.ensures

pub returns-then-not-is_below : goal.returns-then-not-is_below
returns-then-not-is_below c = stops_below c.args.count c.loop.counter c.loop.before.now c.loop.rest.now
    (rows_end [] c.args.count c.args.bytes.now) c.loop.invariant c.loop-test.true (c.in-Some.key.now, c.in-Some._value.now)
    c.in-Some.after.now c.in-Some.ensures
    (sym c.is_below.ensures ∙ c.if-not-is_below.true)

pub loop-preserved : goal.loop-preserved
loop-preserved c = goes_on c.args.count c.loop.counter c.loop.before.now c.loop.rest.now
    (rows_end [] c.args.count c.args.bytes.now) c.loop.invariant c.loop-test.true (c.in-Some.key.now, c.in-Some._value.now)
    c.in-Some.after.now c.in-Some.ensures
    (sym c.is_below.ensures ∙ c.if-not-is_below.false)

pub returns : goal.returns
returns c = is_done c.args.count c.loop.counter c.loop.before.now c.loop.rest.now
    (rows_end [] c.args.count c.args.bytes.now) c.loop.invariant c.loop-test.false
