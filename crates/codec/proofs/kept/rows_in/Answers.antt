use Rattle.std.proofs.Common.{rules, ◌≡◌, ◌∙◌, arith, ap, sym, length, Some, None}
use Rattle.codec.specs.Replies.{has_rows}
use Rattle.codec.proofs.KeptRows.{rows_there, no_rows, counted_there, packed_there, reply_there}
use Rattle.codec.proofs.Replies.{reply_not_empty}
use Rattle.codec.proofs.kept.rows_in.Goals as goal

pub unreachable-requires : goal.unreachable-requires
unreachable-requires c =
    let spelled = c.requires.stands in
    omega (arith, reply_not_empty spelled.0, ap length spelled.2, c.in_default.ensures.cases)

pub returns-then-kind-ne-ROWS-clause-rows : goal.returns-then-kind-ne-ROWS-clause-rows
returns-then-kind-ne-ROWS-clause-rows c = λ r fits stands.
    no_rows r c.in-Some.kind.now c.in-Some.rest.now (sym c.in-Some.ensures.cases.0 ∙ stands) (search rules)

pub unreachable-requires-in_default-take_read : goal.unreachable-requires-in_default-take_read
unreachable-requires-in_default-take_read c =
    let spelled = c.requires.stands in
    let there = rows_there spelled.0 c.in-Some.kind.now c.in-Some.rest.now spelled.1
    (sym c.in-Some.ensures.cases.0 ∙ spelled.2) c.if-kind-ne-ROWS.false in
    let never : None ≡ Some _ = sym c.in_default-take_read.ensures ∙ there.numbers in
    cc

pub unreachable-requires-in_default-take_count : goal.unreachable-requires-in_default-take_count
unreachable-requires-in_default-take_count c =
    let spelled = c.requires.stands in
    let there = rows_there spelled.0 c.in-Some.kind.now c.in-Some.rest.now spelled.1
    (sym c.in-Some.ensures.cases.0 ∙ spelled.2) c.if-kind-ne-ROWS.false in
    let never : None ≡ Some _ = sym c.in_default-take_count.ensures
    ∙ counted_there spelled.0 c.in-Some.rest.now c.in-Some-take_read.rest.now c.in-Some-take_read.session
    c.in-Some-take_read.read there c.in-Some-take_read.ensures in
    cc

pub copy_of-requires : goal.copy_of-requires
copy_of-requires c =
    let spelled = c.requires.stands in
    let there = rows_there spelled.0 c.in-Some.kind.now c.in-Some.rest.now spelled.1
    (sym c.in-Some.ensures.cases.0 ∙ spelled.2) c.if-kind-ne-ROWS.false in
    packed_there spelled.0 c.in-Some.rest.now c.in-Some-take_read.rest.now c.in-Some-take_read.session
    c.in-Some-take_read.read there c.in-Some-take_read.ensures c.in-Some-take_count.count c.in-Some-take_count.rest.now
    c.in-Some-take_count.ensures

pub returns-in-Ok-clause-rows : goal.returns-in-Ok-clause-rows
returns-in-Ok-clause-rows c = λ r fits stands.
    let there = rows_there r c.in-Some.kind.now c.in-Some.rest.now fits (sym c.in-Some.ensures.cases.0 ∙ stands)
    c.if-kind-ne-ROWS.false in
    reply_there r c.in-Some.rest.now c.in-Some-take_read.rest.now c.in-Some-take_read.session
    c.in-Some-take_read.read there c.in-Some-take_read.ensures c.in-Some-take_count.count c.in-Some-take_count.rest.now
    c.in-Some-take_count.ensures c.in-Ok.rows c.in-Ok.ensures

pub returns-in-Err-clause-memory : goal.returns-in-Err-clause-memory
returns-in-Err-clause-memory c = λ r fits stands.
    let there = rows_there r c.in-Some.kind.now c.in-Some.rest.now fits (sym c.in-Some.ensures.cases.0 ∙ stands)
    c.if-kind-ne-ROWS.false in
    ap has_rows there.is
