use Rattle.std.proofs.Common.{◌∙◌, sym, ap}
use Rattle.codec.specs.PackedRows.{rows_spelled}
use Rattle.codec.proofs.PackedRows.{front_spelled, has_key, has_value, front_is_row, rest_packed}
use Rattle.codec.proofs.lent_rows.LentRows.next_texts.Goals as goal

pub returns-then-self-eq0-clause-end : goal.returns-then-self-eq0-clause-end
unfolding rows_spelled
returns-then-self-eq0-clause-end c =
    sym c.self.view_is ∙ ap (λ n. rows_spelled n c.self.inside.bytes.now) c.if-self-eq0.true

pub split_text-requires : goal.split_text-requires
split_text-requires c =
    has_key c.self.inside.count c.self.inside.bytes.now c.if-self-eq0.false c.self.invariant

pub split_text-requires-2 : goal.split_text-requires-2
split_text-requires-2 c =
    rw c.split_text.ensures.rest
    (has_value c.self.inside.count c.self.inside.bytes.now c.if-self-eq0.false c.self.invariant)

pub invariant_of-self : goal.invariant_of-self
invariant_of-self c =
    rw (c.split_text-2.ensures.rest, c.split_text.ensures.rest)
    (rest_packed c.self.inside.count c.self.inside.bytes.now c.if-self-eq0.false c.self.invariant)

pub returns-clause-row : goal.returns-clause-row
returns-clause-row c =
    rw (c.split_text-2.ensures.text, c.split_text-2.ensures.rest, c.split_text.ensures.text, c.split_text.ensures.rest)
    (sym c.self.view_is
    ∙ front_spelled c.self.inside.count c.self.inside.bytes.now c.if-self-eq0.false c.self.invariant)

pub returns-clause-each : goal.returns-clause-each
returns-clause-each c =
    rw (c.split_text-2.ensures.text, c.split_text.ensures.text, c.split_text.ensures.rest)
    (front_is_row c.self.inside.count c.self.inside.bytes.now c.if-self-eq0.false c.self.invariant)
