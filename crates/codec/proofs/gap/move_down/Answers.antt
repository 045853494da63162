use Rattle.std.proofs.Common.{arith}
use Rattle.codec.proofs.Gaps.{down_none, down_more, down_all}
use Rattle.codec.proofs.gap.move_down.Goals as goal

pub loop-at-init : goal.loop-at-init
loop-at-init c = down_none c.args.to c.args.by c.args.bytes.now c.requires

pub loop-at-preserved : goal.loop-at-preserved
loop-at-preserved c =
    let h = c.loop-at.invariant in
    down_more c.args.to c.args.by c.loop-at.at c.min-count.result c.args.bytes.now c.loop-at.bytes c.move_block.new.bytes
    (omega (arith, c.requires)) h c.move_block.ensures

pub returns-clause-moved : goal.returns-clause-moved
returns-clause-moved c =
    down_all c.args.to c.args.by c.args.bytes.now c.requires c.loop-at.at c.loop-at.bytes c.loop-at.invariant
    (omega (arith, c.loop-at-test.false))
