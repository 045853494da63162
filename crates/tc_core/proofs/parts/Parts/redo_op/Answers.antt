use Rattle.std.proofs.Common.{ℕ, false, subst, arith, sym, true≢false, Option}
use Rattle.tc_restart.specs.Redo.{FindsRequest}
use Rattle.tc_core.specs.Seen.{seen}
use Rattle.tc_core.proofs.Asking.{none_before}
use Rattle.tc_core.proofs.KeepsLost.{keeps_redoing}
use Rattle.tc_core.proofs.parts.Parts.redo_op.Goals as goal

pub returns-clause-kept : goal.returns-clause-kept
returns-clause-kept g c =
    let w = seen c.args.self.now in
    let n = c.in_ok-number.number in
    let at = c.requires.redoing in
    let found = subst (λ (r : Option ℕ). FindsRequest w.log c.args.next w.session r) c.in_ok-number.was
    c.redo_next.ensures in
    keeps_redoing w c.requires.kept c.args.next at.0 n false at.1 found.is.from_there
    (omega (arith, found.is.up_to))
    (λ e. absurd (true≢false (sym e))) (none_before w.log c.args.next w.session n found)
