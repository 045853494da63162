use Rattle.std.proofs.Common.{arith}
use Rattle.shell_scripts.proofs.Printing.{prints_err}
use Rattle.shell_pool.proofs.Reading.{reads_next, so_far_cut, so_far_next}
use Rattle.shell_pool.proofs.shown.print_reads.Goals as goal

pub returns-in_err-print_read : goal.returns-in_err-print_read
returns-in_err-print_read g c =
    let next = reads_next c.loop-value.client c.loop-value.value-index c.args.values.now c.value-item.result
    c.loop-value-test.true c.value-item.is in
    prints_err _ _ _ c.from_residual.result c.from_residual.ensures.0
    (so_far_cut _ _ _ _ _ _ _ c.loop-value.invariant.so_far next c.in_err-print_read.ensures)

pub loop-value-preserved : goal.loop-value-preserved
loop-value-preserved g c =
    let next = reads_next c.loop-value.client c.loop-value.value-index c.args.values.now c.value-item.result
    c.loop-value-test.true c.value-item.is in
    record {
      count = omega (arith, c.loop-value.invariant.count);
      so_far = so_far_next _ _ _ _ _ _ _ c.loop-value.invariant.so_far next c.in_ok-print_read.ensures;
    }
