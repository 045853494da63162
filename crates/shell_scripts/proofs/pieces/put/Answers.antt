use Rattle.std.proofs.Common.{◌++◌, take, ap, ◌∙◌, sym}
use Rattle.shell_scripts.proofs.Printing.{appends_then, still_all}
use Rattle.shell_scripts.proofs.pieces.put.Goals as goal

pub loop-preserved : goal.loop-preserved
loop-preserved g c =
    let w = c.loop.invariant in
    let sent = take c.in_ok-count.count c.loop.left.now in (
      w.0 ++ sent,
      still_all c.args.bytes.now w.0 c.loop.left.now c.in_ok-count.count w.1
          ∙ ap (λ v. (w.0 ++ sent) ++ v) (sym c.split_at.ensures.back),
      appends_then _ _ _ w.0 sent w.2 c.in_ok-count.ensures.bytes,
    )
