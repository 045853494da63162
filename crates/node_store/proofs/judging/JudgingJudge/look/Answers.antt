use Rattle.std.proofs.Common.{◌∷◌, List, sym, subst}
use Rattle.history.specs.declared.record.Record.{Record}
use Rattle.node_store.specs.declared.judging.Judging.TheInside.{Inside}
use Rattle.node_store.specs.Judging.{IsJudged}
use Rattle.node_store.proofs.Firsts.{still_judged, all_taken}
use Rattle.node_store.proofs.judging.JudgingJudge.look.Goals as goal
use Rattle.node_store.proofs.judging.JudgingJudge.look.Goals.{then-is_none+in_ok-self-inside, else-is_none}

pub invariant_of-self-2 : goal.invariant_of-self-2
invariant_of-self-2 c =
    let was : Inside = c.self.inside in
    let now : Inside = c.if-is_none.self-inside in
    let Judged : Inside → Type 0 = λ it. IsJudged (c.args.next.now ∷ it.shown.items) it.replay it.wrong in
    let judged : Judged now = elim c.if-is_none.branch [
      | then-is_none+in_ok-self-inside w ↦
          let After : List Record → Type 0 =
          λ log. IsJudged (c.args.next.now ∷ log) w.judge.new.replay w.in_ok-self-inside.field-0 in
          subst Judged (sym w.self-inside-is)
          (subst After (all_taken was.shown.items was.replay was.wrong w.if-is_none.ensures c.self.invariant)
          w.in_ok-self-inside.ensures.judged)
      | else-is_none w ↦
          subst Judged (sym w.self-inside-is)
          (still_judged c.args.next.now was.shown.items was.replay was.wrong w.if-is_none.ensures c.self.invariant)
    ] in
    subst (λ (log : List Record). IsJudged log now.replay now.wrong) (sym c.with-self-inside.ensures) judged
