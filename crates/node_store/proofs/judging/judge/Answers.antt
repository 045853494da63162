use Rattle.std.proofs.Common.{true≢false, sym, ◌∙◌}
use Rattle.node_store.proofs.Firsts.{wrong_next}
use Rattle.node_store.proofs.judging.judge.Goals as goal

pub returns-else-branch : goal.returns-else-branch
returns-else-branch c = record {
  judged =
      wrong_next c.args.next.now c.args.replay.now c.args.number c.requires.number
      (record { right = c.kept.ensures; unchecked = c.requires.unchecked })
      (λ right. true≢false (sym (c.in_ok-take.ensures.right.1 right) ∙ c.if-branch.false));
  memory = tt;
  unchanged = tt;
}
