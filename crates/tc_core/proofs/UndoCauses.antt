-- Why a step of a rollback is refused, and what it may find.
use Rattle.std.proofs.Common.{◌≡◌, ℕ, ◌<◌, ◌≤◌, Bool, true, false, Option, Some, is_some, refl, sym, ap, ◌∙◌, subst, arith}
use Rattle.std.specs.Prelude.{nat_lt, ◌&&◌, ◌||◌, not}
use Rattle.std.proofs.lemmas.Bool.Decides.{nat_tests}
use Rattle.record_key.specs.declared.refusal.Refusal.{Refusal}
use Rattle.tc_core.specs.declared.open_txn.Rollback.{Rollback}
use Rattle.tc_core.specs.declared.told.UndoStep.{UndoStep}
use Rattle.tc_core.specs.OpenTxns.{find}
use Rattle.tc_log.specs.LogView.{LogView, is_spent, spent_refusal, after_refusal}
use Rattle.record_key.specs.FirstCause.{MayRefuse}
use Rattle.tc_core.specs.Locking.{spent_of}
use Rattle.tc_core.specs.TcView.{TcView}
use Rattle.tc_core.specs.Refusing.{Refuses}
use Rattle.tc_core.specs.Causes.{logs_next, undo_logs, undo_refusal}
use Rattle.tc_core.specs.Calls.{Undoes, UndoesStep}
use Rattle.tc_core.specs.Undoing.{MayStep}
use Rattle.tc_core.proofs.Refused.{IsDueAs, with_log, log_of, refuses, at_number}

module _ (w : TcView) (t : ℕ) (b : Rollback) (may : MayStep w t b) where
  pub logs_is : undo_logs (find t w.open_txns) ≡ logs_next may.open_txn.undo (Some b)
  logs_is = rw (at_number w t may.open_txn may.found.at) (ap (logs_next may.open_txn.undo) may.rolling)

  -- nothing stands before want of a number for what is logged
  pub refusal_is : undo_refusal w t ≡ spent_of (logs_next may.open_txn.undo (Some b) && is_spent w.log)
  refusal_is = rw (may.found.allowed, logs_is) refl

  -- where it logs, the log may refuse
  pub refuses_step : logs_next may.open_txn.undo (Some b) ≡ true → (r : Refusal) (l : LogView)
      → MayRefuse (spent_refusal w.log) r → l ≡ after_refusal (log_of w) r → IsDueAs w r
      → Refuses (undo_refusal w t) (undo_logs (find t w.open_txns)) (undo_logs (find t w.open_txns)) w r (with_log w l)
  refuses_step logs r l h e due = rw (refusal_is, logs_is, logs) (refuses w (is_spent w.log) r l h e due)

  -- it is made where it logs nothing, or the log has a number left
  pub makes : (step : UndoStep) (new : TcView) → (logs_next may.open_txn.undo (Some b) && is_spent w.log) ≡ false
      → Undoes w may.open_txn (Some b) step new → UndoesStep w t step new
  makes step new allowed undoes = record {
    open_txn = may.open_txn;
    at = may.found.at;
    allowed = refusal_is ∙ ap spent_of allowed;
    undoes = let P : Option Rollback → Type 0 = λ x. Undoes w may.open_txn x step new in
        subst P (sym may.rolling) undoes;
  }

  pub logs_comp : b.above < may.open_txn.undo → logs_next may.open_txn.undo (Some b) ≡ true
  logs_comp above = let more : nat_lt b.above may.open_txn.undo ≡ true = grind (arith, nat_tests, above) in
      ap (λ x. x || not (is_some b.savepoint)) more

  pub logs_none : (s : ℕ) → may.open_txn.undo ≤ b.above → b.savepoint ≡ Some s
      → logs_next may.open_txn.undo (Some b) ≡ false
  logs_none s below is = let less : nat_lt b.above may.open_txn.undo ≡ false = grind (arith, nat_tests, below) in
      rw (less, is) refl

pub unspent_and : (x y : Bool) → y ≡ false → (x && y) ≡ false
unspent_and true y h = h
unspent_and false y h = refl
