use Rattle.std.proofs.Common.{◌∙◌, sym, ap, arith, drop, take, length}
use Rattle.codec.proofs.PackedRows.{rest_within, before_spelled, before_packed}
use Rattle.codec.proofs.lent_rows.LentRows.before.Goals as goal

pub slice_bounds-result-count : goal.slice_bounds-result-count
slice_bounds-result-count c =
    rest_within c.self.inside.count c.self.inside.bytes.now c.self.invariant c.args.at c.rest.inside.count
    c.rest.inside.bytes.now c.rest.invariant
    (c.rest.view_is ∙ c.from-rest.ensures ∙ ap (drop c.args.at) (sym c.self.view_is))

pub invariant_of-result : goal.invariant_of-result
invariant_of-result c =
    before_packed c.self.inside.count c.self.inside.bytes.now c.self.invariant c.args.at c.rest.inside.count
    c.rest.inside.bytes.now c.rest.invariant
    (c.rest.view_is ∙ c.from-rest.ensures ∙ ap (drop c.args.at) (sym c.self.view_is))
    (omega (arith, c.requires, ap length c.self.view_is))

pub returns : goal.returns
returns c =
    before_spelled c.self.inside.count c.self.inside.bytes.now c.self.invariant c.args.at c.rest.inside.count
    c.rest.inside.bytes.now c.rest.invariant
    (c.rest.view_is ∙ c.from-rest.ensures ∙ ap (drop c.args.at) (sym c.self.view_is))
    (omega (arith, c.requires, ap length c.self.view_is))
    ∙ ap (take c.args.at) c.self.view_is
