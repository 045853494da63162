use Rattle.std.proofs.Common.{◌≡◌, ℕ, ◌≤◌, None, refl, sym, ap, subst}
use Rattle.std.specs.Prelude.{◌&&◌}
use Rattle.history.specs.Legal.{Fits}
use Rattle.history.specs.declared.record.Record.TheVariants.{End}
use Rattle.tc_undo.specs.NextUndo.{IsUndone}
use Rattle.tc_core.specs.declared.change.Change.TheVariants.{IsBack}
use Rattle.tc_core.specs.declared.open_txn.OpenTxn.{OpenTxn}
use Rattle.tc_core.specs.declared.open_txn.Rollback.{Rollback}
use Rattle.tc_core.specs.declared.told.UndoStep.TheVariants.{Back, RolledBack}
use Rattle.tc_log.specs.LogView.{is_spent}
use Rattle.tc_core.specs.TcView.{TcView}
use Rattle.tc_core.specs.Kept.{IsTc}
use Rattle.tc_core.specs.Undoing.{MayStep}
use Rattle.tc_core.specs.Seen.{seen}
use Rattle.tc_core.proofs.KeepsTc.{open_at, keeps_is_back}
use Rattle.tc_core.proofs.KeepsUndo.{fits_end, keeps_end, none_left}
use Rattle.tc_undo.proofs.Numbers.{fits_numbers}
use Rattle.tc_core.proofs.Refused.{happened}
use Rattle.tc_core.proofs.UndoCauses.{makes, logs_none, unspent_and}
use Rattle.tc_core.proofs.parts.Parts.undone.Goals as goal

pub returns-in-Some-clause-kept : goal.returns-in-Some-clause-kept
returns-in-Some-clause-kept g c =
    let w = seen c.args.self.now in
    let may = c.requires.may_step in
    rw (happened w c.args.txn may.open_txn IsBack c.change.new.self may.found.at c.change.ensures)
    (keeps_is_back w may.open_txn c.requires.kept may.found.at.is may.found.waiting may.found.reading)

-- nothing of the transaction is left above the bound
left : (w : TcView) (t : ℕ) (b : Rollback) (may : MayStep w t b) → IsTc w → IsUndone w.log t b.above
    → may.open_txn.undo ≤ b.above
left w t b may k undone =
    let P : ℕ → Type 0 = λ n. IsUndone w.log n b.above in
    none_left w may.open_txn b.above k may.found.at.is (subst P (sym may.found.at.number) undone)

pub returns-in-Some-clause-gives : goal.returns-in-Some-clause-gives
returns-in-Some-clause-gives g c =
    let w = seen c.args.self.now in
    let may = c.requires.may_step in
    let below = left w c.args.txn c.args.rollback may c.requires.kept c.requires.undone in
    rw (happened w c.args.txn may.open_txn IsBack c.change.new.self may.found.at c.change.ensures)
    (makes w c.args.txn c.args.rollback may (Back c.args.txn c.in-Some.savepoint) _
    (ap (λ b. b && is_spent w.log) (logs_none w c.args.txn c.args.rollback may c.in-Some.savepoint below c.in-Some.is))
    (below, c.in-Some.is, sym may.found.at.number, refl))

-- a whole rollback has undone all
fits : (w : TcView) (t : ℕ) (b : Rollback) (may : MayStep w t b) → IsTc w → IsUndone w.log t b.above
    → b.savepoint ≡ None → Fits w.log (End may.open_txn.txn)
fits w t b may k undone none =
    let o : OpenTxn = may.open_txn in
    let zero : b.above ≡ 0 = ((open_at w o k may.found.at.is).rolling b may.rolling).whole none in
    let P : ℕ → Type 0 = λ n. IsUndone w.log o.txn n in
    let Q : ℕ → Type 0 = λ n. IsUndone w.log n b.above in
    fits_end w o k may.found.at.is may.found.waiting (subst P zero (subst Q (sym may.found.at.number) undone))

pub append-requires : goal.append-requires
append-requires g c =
    let may = c.requires.may_step in
    let w = seen c.args.self.now in
    let fits = fits w c.args.txn c.args.rollback may c.requires.kept c.requires.undone c.in_default.is in
    rw (← may.found.at.number)
    (record { fits = fits; numbers = fits_numbers w.log (End may.open_txn.txn) c.requires.kept.few.records fits })

pub returns-clause-kept : goal.returns-clause-kept
returns-clause-kept g c =
    let w = seen c.args.self.now in
    let may = c.requires.may_step in
    let appended = c.in_ok-append.ensures.appended in
    rw (c.remove.ensures, c.release.ensures, appended.log, ← may.found.at.number)
    (keeps_end w may.open_txn c.requires.kept may.found.at.is
    (fits w c.args.txn c.args.rollback may c.requires.kept c.requires.undone c.in_default.is) appended.unspent)

pub returns-clause-gives : goal.returns-clause-gives
returns-clause-gives g c =
    let w = seen c.args.self.now in
    let may = c.requires.may_step in
    let appended = c.in_ok-append.ensures.appended in
    makes w c.args.txn c.args.rollback may (RolledBack c.args.txn) _ (unspent_and _ (is_spent w.log) appended.unspent) (
      left w c.args.txn c.args.rollback may c.requires.kept c.requires.undone,
      c.in_default.is,
      sym may.found.at.number,
      rw (c.remove.ensures, c.release.ensures, appended.log, ← may.found.at.number) refl,
    )
