use Rattle.std.proofs.Common.{◌≡◌, ◌∙◌, ℕ, List, Option, sym, ap, true≢false}
use Rattle.history.specs.declared.record.Record.{Record}
use Rattle.history.specs.Log.{record_at}
use Rattle.history.specs.Chains.{undo_from, prev_in}
use Rattle.tc_log.proofs.Checks.{comp_test, comp_next, comp_zero, comp_latest}
use Rattle.tc_log.proofs.fits.fits_comp.Goals as goal

pub returns-then-undoes-eq0 : goal.returns-then-undoes-eq0
returns-then-undoes-eq0 g c = (
  λ e. absurd (true≢false (sym e)),
  λ fits. absurd
      (comp_zero _ c.args.txn c.args.undoes c.args.next c.args.by.now c.if-undoes-eq0.true fits),
)

pub returns-then-left_to_undo-undoes : goal.returns-then-left_to_undo-undoes
returns-then-left_to_undo-undoes g c = (
  λ e. absurd (true≢false (sym e)),
  λ fits. absurd (comp_latest _ c.args.txn c.in-Some.latest c.args.undoes c.args.next c.left_to_undo.result c.args.by.now
      c.requires.legal c.in-Some.ensures c.left_to_undo.ensures c.if-left_to_undo-undoes.true fits),
)

-- what is left below the operation that was read is what is left below its number
read_below : (log : List Record) (found : Option Record) (u below : ℕ) → found ≡ record_at log u
    → below ≡ undo_from (record_at log (prev_in found)) (prev_in found)
    → undo_from (record_at log (prev_in (record_at log u))) (prev_in (record_at log u)) ≡ below
read_below log found u below read is =
    ap (λ (r : Option Record). undo_from (record_at log (prev_in r)) (prev_in r)) (sym read) ∙ sym is

pub returns-then-undo_below-next : goal.returns-then-undo_below-next
returns-then-undo_below-next g c = (
  λ e. absurd (true≢false (sym e)),
  λ fits. absurd (comp_next _ c.args.txn c.args.undoes c.args.next c.undo_below.result c.args.by.now c.requires.legal
      (read_below _ c.record-undone.result c.args.undoes _ c.record-undone.ensures c.undo_below.ensures)
      c.if-undo_below-next.true fits),
)

pub returns : goal.returns
returns g c =
    comp_test _ c.args.txn c.in-Some.latest c.args.undoes c.args.next c.args.by.now c.inverts.result c.requires.legal
    c.in-Some.ensures c.if-undoes-eq0.false (sym c.left_to_undo.ensures ∙ c.if-left_to_undo-undoes.false)
    (read_below _ c.record-undone.result c.args.undoes _ c.record-undone.ensures c.undo_below.ensures
    ∙ c.if-undo_below-next.false) c.inverts.ensures
