use Rattle.std.proofs.Common.{arith}
use Rattle.codec.proofs.Gaps.{up_none, up_more}
use Rattle.codec.proofs.gap.move_up.Goals as goal

pub loop-left-init : goal.loop-left-init
loop-left-init c = (omega (arith, c.requires), up_none c.args.by c.args.bytes.now (omega (arith, c.requires)))

pub loop-left-preserved : goal.loop-left-preserved
loop-left-preserved c = (
  omega arith,
  up_more c.args.by c.loop-left.left c.min-count.result c.args.bytes.now c.loop-left.bytes c.move_block.new.bytes
      (omega arith) c.loop-left.invariant.1 c.move_block.ensures,
)
