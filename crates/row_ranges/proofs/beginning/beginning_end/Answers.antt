use Rattle.std.proofs.Common.{Some, sym, ◌∙◌, ap, arith}
use Rattle.row_ranges.specs.Beginnings.{beginning_end}
use Rattle.row_ranges.proofs.Ends.{dropped, raised}
use Rattle.row_ranges.proofs.beginning.beginning_end.Goals as goal

pub returns-then-last-lt255 : goal.returns-then-last-lt255
returns-then-last-lt255 c =
    ap Some c.key_of.ensures ∙ sym (raised c.in-Some.before.now c.in-Some.last.now c.if-last-lt255.true)
    ∙ ap beginning_end (sym c.in-Some.ensures.cases.0) ∙ c.loop-last.invariant.same

pub loop-last-preserved : goal.loop-last-preserved
loop-last-preserved c = record {
  same = sym (dropped c.in-Some.before.now c.in-Some.last.now c.if-last-lt255.false)
      ∙ ap beginning_end (sym c.in-Some.ensures.cases.0) ∙ c.loop-last.invariant.same;
  short = omega (arith, c.in-Some.ensures.cases.1, c.loop-last.invariant.short);
}
