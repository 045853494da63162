use Rattle.std.proofs.Common.{◌≡◌, ◌+◌, ◌-◌, sym, ◌∙◌, arith}
use Rattle.record_key.proofs.WordOrder.{ends, same_further, fewer, lengths_decide}
use Rattle.record_key.proofs.words.order_of_texts.Goals as goal

pub returns-then-is_ne : goal.returns-then-is_ne
returns-then-is_ne c =
    ends c.loop-at.at c.min-both.result c.args.a.now c.args.b.now (omega (arith, c.min-both.ensures))
    (omega (arith, c.min-both.ensures)) (omega (arith, c.loop-at-test.true, c.if-both-lt8.false)) c.loop-at.invariant.same
    c.order_of_words-found.ensures (sym c.is_ne.ensures ∙ c.if-is_ne.true)

pub loop-at-preserved : goal.loop-at-preserved
loop-at-preserved c = record {
  within = omega (arith, c.loop-at-test.true, c.if-both-lt8.false);
  same = same_further c.loop-at.at c.min-both.result c.args.a.now c.args.b.now (omega (arith, c.min-both.ensures))
      (omega (arith, c.min-both.ensures)) (omega (arith, c.loop-at-test.true, c.if-both-lt8.false))
      c.loop-at.invariant.same c.order_of_words-found.ensures (sym c.is_ne.ensures ∙ c.if-is_ne.false);
}

pub returns-then-is_ne-2 : goal.returns-then-is_ne-2
returns-then-is_ne-2 c =
    ends (c.min-both.result - 8) c.min-both.result c.args.a.now c.args.b.now (omega (arith, c.min-both.ensures))
    (omega (arith, c.min-both.ensures)) (omega (arith, c.if-both-lt8.false))
    (fewer (c.min-both.result - 8) c.loop-at.at c.args.a.now c.args.b.now c.loop-at-test.false c.loop-at.invariant.same)
    c.order_of_words-found-2.ensures (sym c.is_ne-2.ensures ∙ c.if-is_ne-2.true)

pub returns : goal.returns
returns c =
    let all : c.min-both.result - 8 + 8 ≡ c.min-both.result = omega (arith, c.if-both-lt8.false) in
    let same = same_further (c.min-both.result - 8) c.min-both.result c.args.a.now c.args.b.now
    (omega (arith, c.min-both.ensures)) (omega (arith, c.min-both.ensures)) (omega (arith, c.if-both-lt8.false))
    (fewer (c.min-both.result - 8) c.loop-at.at c.args.a.now c.args.b.now c.loop-at-test.false c.loop-at.invariant.same)
    c.order_of_words-found-2.ensures (sym c.is_ne-2.ensures ∙ c.if-is_ne-2.false) in
    c.cmp-2.ensures
    ∙ lengths_decide c.min-both.result c.args.a.now c.args.b.now c.min-both.ensures
    (rw all at same)
