use Rattle.std.proofs.Common.{◌≡◌, ℕ, ◌<◌, is_some, refl, sym, ap, subst, ◌∙◌, Err}
use Rattle.history.specs.declared.record.Record.TheVariants.{Comp}
use Rattle.history.specs.declared.record.Record.{Record}
use Rattle.history.specs.Legal.{Fits}
use Rattle.tc_undo.specs.NextUndo.{Compensates, Undoes, UndoesNext, undo_next_in, has_inverse}
use Rattle.tc_core.specs.declared.change.Change.TheVariants.{Stepped}
use Rattle.tc_core.specs.declared.told.UndoStep.TheVariants.{Compensated}
use Rattle.tc_log.specs.LogView.{is_spent}
use Rattle.tc_log.specs.Undoing.{inverse_at, next_at}
use Rattle.tc_core.specs.Changes.{waits_for, compensated}
use Rattle.tc_core.specs.Kept.{IsTc}
use Rattle.tc_core.specs.TcView.{TcView}
use Rattle.tc_core.specs.declared.open_txn.Rollback.{Rollback}
use Rattle.tc_core.specs.Undoing.{MayStep}
use Rattle.tc_core.specs.Seen.{seen}
use Rattle.tc_core.proofs.KeepsUndo.{fits_comp, is_comp, keeps_comp, waits}
use Rattle.tc_core.proofs.Refused.{happened}
use Rattle.tc_core.proofs.UndoCauses.{refuses_step, makes, logs_comp, unspent_and}
use Rattle.tc_core.proofs.parts.Parts.compensate.Goals as goal
use Rattle.tc_core.proofs.parts.Parts.compensate.Goals.{After-change}

-- the compensation is that of what is left to undo
it_is : (w : TcView) (t : ℕ) (b : Rollback) (may : MayStep w t b) (r : Record) → IsTc w → Compensates w.log t b.above r
    → (r ≡ Comp may.open_txn.txn may.open_txn.undo (next_at w.log may.open_txn.undo)
    (inverse_at w.log may.open_txn.undo)) × (b.above < may.open_txn.undo)
it_is w t b may r k next =
    let at = may.found.at in
    let P : ℕ → Type 0 = λ n. Compensates w.log n b.above r in
    is_comp w may.open_txn b.above r k at.is (subst P (sym at.number) next)

-- the compensation that was appended
appended : (g : _) (c : After-change g) → Undoes c.args.self.now.log c.args.txn c.args.rollback.above c.in-Ok-Some.told
    c.append_undo.new.log
appended g c = subst (λ told. UndoesNext c.args.self.now.log c.args.txn c.args.rollback.above told c.append_undo.new.log)
    c.in-Ok-Some.field-0-is c.in-Ok-Some.ensures.undoes

now : (g : _) (c : After-change g)
    → seen (record c.args.self.now { log = c.append_undo.new.log; open_txns = c.change.new.self })
    ≡ compensated (seen c.args.self.now) c.requires.may_step.open_txn
now g c =
    let w = seen c.args.self.now in
    let may = c.requires.may_step in
    let o = may.open_txn in
    let told = c.in-Ok-Some.told in
    let d = appended g c in
    let is = (it_is w c.args.txn c.args.rollback may d.compensation c.requires.kept d.next).0 in
    let undo : told.next ≡ next_at w.log o.undo = d.undo_next ∙ ap undo_next_in is in
    let asked : told.asks ≡ is_some (inverse_at w.log o.undo) = d.asks ∙ ap has_inverse is in
    let waiting : c.awaited.result ≡ waits_for told.number (inverse_at w.log o.undo) =
    c.awaited.ensures ∙ rw asked (waits (inverse_at w.log o.undo) told.number) in
    rw (
      happened w c.args.txn o (Stepped told.number told.next c.awaited.result) c.change.new.self may.found.at
          c.change.ensures,
      waiting,
      undo,
      d.appended.log,
      is,
      d.appended.number_is,
    ) refl

pub undone-requires-clause-undone : goal.undone-requires-clause-undone
undone-requires-clause-undone g c =
    let none = subst (λ told. UndoesNext c.args.self.now.log c.args.txn c.args.rollback.above told c.append_undo.new.log)
    c.in-Ok-None.field-0-is c.in-Ok-None.ensures.undoes in
    rw none.1 none.0

pub returns-in-Err-clause-gives : goal.returns-in-Err-clause-gives
returns-in-Err-clause-gives g c =
    let w = seen c.args.self.now in
    let may = c.requires.may_step in
    let left = c.in-Err.ensures.found in
    let above = (it_is w c.args.txn c.args.rollback may left.compensation c.requires.kept left.next).1 in
    refuses_step w c.args.txn c.args.rollback may (logs_comp w c.args.txn c.args.rollback may above) c.in-Err.refusal
    c.append_undo.new.log c.in-Err.ensures.refused c.in-Err.ensures.left (λ e. c.in-Err.ensures.device (ap Err e))

pub returns-in-Ok-Some-clause-kept : goal.returns-in-Ok-Some-clause-kept
returns-in-Ok-Some-clause-kept g c =
    let w = seen c.args.self.now in
    let may = c.requires.may_step in
    let d = appended g c in
    let is = (it_is w c.args.txn c.args.rollback may d.compensation c.requires.kept d.next).0 in
    let P : Record → Type 0 = Fits w.log in
    let fits = subst P is (fits_comp w.log c.args.txn c.args.rollback.above d.compensation d.next) in
    subst IsTc (sym (now g c))
    (keeps_comp w may.open_txn c.args.rollback c.requires.kept may.found.at.is may.found.waiting may.rolling fits
    d.appended.unspent)

pub returns-in-Ok-Some-clause-gives : goal.returns-in-Ok-Some-clause-gives
returns-in-Ok-Some-clause-gives g c =
    let w = seen c.args.self.now in
    let may = c.requires.may_step in
    let d = appended g c in
    let above = (it_is w c.args.txn c.args.rollback may d.compensation c.requires.kept d.next).1 in
    makes w c.args.txn c.args.rollback may (Compensated c.in-Ok-Some.told.number)
    _ (unspent_and _ (is_spent w.log) d.appended.unspent)
    (above, d.appended.number_is, now g c)
