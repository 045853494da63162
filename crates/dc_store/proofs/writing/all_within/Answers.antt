use Rattle.std.proofs.Common.{sym, ap, ◌∙◌, arith}
use Rattle.dc_leaf.specs.Tops.{is_within}
use Rattle.dc_store.proofs.Within.{none_yet, one_above, none_above}
use Rattle.dc_store.proofs.writing.all_within.Goals as goal

pub loop-place-preserved : goal.loop-place-preserved
loop-place-preserved g c =
    none_yet c.args.known _ c.loop-place.place (omega (arith, c.loop-place-test.true, c.len-place-end.ensures.count))
    (ap (is_within c.args.known) (sym c.leaf.ensures) ∙ sym c.is_within.ensures ∙ c.if-not-is_within.false) c.loop-place.invariant

pub returns-then-not-is_within : goal.returns-then-not-is_within
returns-then-not-is_within g c =
    sym (one_above c.args.known _ c.loop-place.place
    (omega (arith, c.loop-place-test.true, c.len-place-end.ensures.count))
    (ap (is_within c.args.known) (sym c.leaf.ensures) ∙ sym c.is_within.ensures ∙ c.if-not-is_within.true) c.loop-place.invariant)

pub returns : goal.returns
returns g c =
    sym (none_above c.args.known _ c.loop-place.place
    (omega (arith, c.loop-place-test.false, c.len-place-end.ensures.count)) c.loop-place.invariant)
