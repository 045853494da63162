use Rattle.std.proofs.Common.{◌≡◌, ℕ, false, Option, Some, None, sym, subst}
use Rattle.std.specs.Prelude.{IfSome, IfNone}
use Rattle.tc_restart.specs.Redo.{FindsRequest}
use Rattle.tc_core.specs.declared.phase.Phase.TheVariants as phase
use Rattle.tc_core.specs.Recovery.{SendsOp, redoing}
use Rattle.tc_core.specs.Seen.{seen}
use Rattle.tc_core.specs.TcView.{TcView}
use Rattle.tc_core.proofs.Recovering.{redo_sends, undo_sends, sends_none}
use Rattle.tc_core.proofs.parts.Parts.recover_op.Goals as goal

pub returns-in-Redoing-clause-sent : goal.returns-in-Redoing-clause-sent
returns-in-Redoing-clause-sent g c =
    by c.redo_op.result c.redo_op.ensures.finds c.redo_op.ensures.there
  where
    w : TcView
    w = seen c.args.self.now

    new : TcView
    new = seen c.redo_op.new.self

    by : (r : Option ℕ) → FindsRequest w.log c.in-Redoing.next w.session r
        → IfSome r (λ n. new ≡ redoing w n false) → IfSome r (λ n. SendsOp w n new)
    by None finds there = tt
    by (Some n) finds there =
        subst (λ (v : TcView). SendsOp w n v) (sym there)
        (redo_sends w c.in-Redoing.next c.in-Redoing.ending n c.in-Redoing.is finds)

pub returns-in-Redoing-clause-none : goal.returns-in-Redoing-clause-none
returns-in-Redoing-clause-none g c = by c.redo_op.result c.redo_op.ensures.finds
  where
    w : TcView
    w = seen c.args.self.now

    by : (r : Option ℕ) → FindsRequest w.log c.in-Redoing.next w.session r
        → IfNone r ((number : ℕ) (new : TcView) → SendsOp w number new → ⊥)
    by None finds = sends_none w c.in-Redoing.next c.in-Redoing.ending c.in-Redoing.is finds
    by (Some n) finds = tt

pub returns-in-Undoing-clause-sent : goal.returns-in-Undoing-clause-sent
returns-in-Undoing-clause-sent g c = by c.in-Undoing.waiting c.in-Undoing.is
  where
    w : TcView
    w = seen c.args.self.now

    by : (r : Option ℕ) → w.phase ≡ phase.Undoing r → IfSome r (λ n. SendsOp w n w)
    by None at = tt
    by (Some n) at =
        let due = c.requires.lost.due n at in
        undo_sends w n at (record { op = due.op; requested = due.requests })
