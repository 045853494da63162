-- What a record makes of its own open transaction, and leaves of the others.
use Rattle.std.proofs.Common.{◌≡◌, ◌≢◌, ℕ, ◌+◌, cond, List, ◌∷◌, length, Option, Some, None, refl, sym, ap, ◌∙◌, subst, arith, inl, inr, eq-eqb, ne_eqb, true≢false}
use Rattle.std.specs.Prelude.{◌||◌}
use Rattle.std.proofs.lemmas.Bool.{cases_eq}
use Rattle.record_key.specs.declared.op.Op.{Op}
use Rattle.record_key.specs.declared.op.Answer.{Answer}
use Rattle.history.specs.declared.record.Record.{Record}
use Rattle.history.specs.declared.record.Record.TheVariants as is
use Rattle.history.specs.Log.{answer_of, has_ended, IsOpen, IsStepOf}
use Rattle.history.specs.Legal.{IsLegal, IsIdle, IsLatestOrNone}
use Rattle.history.specs.Chains.{undo_from}
use Rattle.log_laws.proofs.Records.{AStep, at_newest, newest_at, older_at, record_new, not_newest}
use Rattle.log_laws.proofs.LegalLogs.{begun_number, begun, step_number, step_ends_none}
use Rattle.tc_core.specs.declared.open_txn.OpenTxn.{OpenTxn}
use Rattle.tc_core.specs.declared.open_txn.Rollback.{Rollback}
use Rattle.tc_core.specs.Changes.{begun_txn, acted_txn, compensated_txn, waits_for, answered_txn}
use Rattle.tc_core.specs.Kept.{IsOpenTxn, IsWaiting, Waits}
use Rattle.tc_log.proofs.Index.{record_at-zero}
use Rattle.tc_core.proofs.Keeps.{open_was, open_kept, unended_next, still_open, bounded}
use Rattle.tc_core.proofs.KeepsIdle.{own_request, leaves_open, idle_now, waits_now, idle_after}

-- a record that is nobody's step or end, and no answer, leaves each open transaction
pub session_leaves : (log : List Record) (o : OpenTxn) → IsOpenTxn log o → IsOpenTxn (is.Session ∷ log) o
session_leaves log o h = leaves_open is.Session log o (record { no_step = λ s. cc; ends_not = refl }) (λ n e. refl) h

pub checkpoint_leaves : (log : List Record) (l : ℕ) (o : OpenTxn) → IsOpenTxn log o
    → IsOpenTxn (is.Checkpoint l ∷ log) o
checkpoint_leaves log l o h =
    leaves_open (is.Checkpoint l) log o (record { no_step = λ s. cc; ends_not = refl }) (λ n e. refl) h

pub begin_leaves : (log : List Record) (o : OpenTxn) → IsOpenTxn log o → IsOpenTxn (is.Begin ∷ log) o
begin_leaves log o h = leaves_open is.Begin log o (record { no_step = λ s. cc; ends_not = refl }) (λ n e. refl) h

-- a step of one leaves each other
pub step_leaves : (r : Record) (log : List Record) (t : ℕ) → AStep t (Some r)
    → ((n : ℕ) → answer_of (r ∷ log) n ≡ answer_of log n)
    → (o : OpenTxn) → o.txn ≢ t → IsOpenTxn log o → IsOpenTxn (r ∷ log) o
step_leaves r log t step same o apart h =
    leaves_open r log o (record {
      no_step = λ s. apart (let e : Some o.txn ≡ Some t = sym s ∙ step in cc);
      ends_not = step_ends_none log r t o.txn step;
    }) (λ n e. same n) h

-- so does its Commit, and its end
pub commit_leaves : (log : List Record) (t : ℕ) (o : OpenTxn) → o.txn ≢ t → IsOpenTxn log o
    → IsOpenTxn (is.Commit t ∷ log) o
commit_leaves log t o apart h =
    leaves_open (is.Commit t) log o
    (record { no_step = λ s. cc; ends_not = ap (λ b. b || has_ended log o.txn) (ne_eqb o.txn t apart) })
    (λ n e. refl) h

pub end_leaves : (log : List Record) (t : ℕ) (o : OpenTxn) → o.txn ≢ t → IsOpenTxn log o → IsOpenTxn (is.End t ∷ log) o
end_leaves log t o apart h =
    leaves_open (is.End t) log o
    (record { no_step = λ s. cc; ends_not = ap (λ b. b || has_ended log o.txn) (ne_eqb o.txn t apart) })
    (λ n e. refl) h

-- and the answer that it waits for, since each other waits for a record of its own
pub answer_leaves : (log : List Record) (o : OpenTxn) (n : ℕ) (a : Answer) → IsWaiting log o n → (p : OpenTxn)
    → p.txn ≢ o.txn → IsOpenTxn log p → IsOpenTxn (is.Answer n a ∷ log) p
answer_leaves log o n a waits p apart h =
    leaves_open (is.Answer n a) log p (record { no_step = λ s. cc; ends_not = refl })
    (λ m waiting. ap (λ b. cond b (Some a) (answer_of log m)) (ne_eqb m n (other m waiting))) h
  where
    other : (m : ℕ) → p.waiting ≡ Some m → m ≢ n
    other m waiting same =
        let P : Option ℕ → Type 0 = λ x. Waits log p x in
        let Q : ℕ → Type 0 = λ x. IsStepOf log p.txn x in
        let mine : IsStepOf log p.txn n = subst Q same (own_request log p m (subst P waiting h.waits).request).step in
        let its : IsStepOf log o.txn n = (own_request log o n waits.request).step in
        apart (let e : Some p.txn ≡ Some o.txn = sym mine ∙ its in cc)

-- a transaction begins
no_steps_yet : (log : List Record) (n : ℕ) → IsLegal log → IsStepOf (is.Begin ∷ log) (length log + 1) n → ⊥
no_steps_yet log n legal step =
    let r : Record = is.Begin in
    elim (cases_eq n (length log + 1)) [
      | inl e ↦ let none : AStep (length log + 1) (Some r) = newest_at (AStep (length log + 1)) r log n e step in cc
      | inr e ↦ not_newest log (length log + 1)
          (begun_number log (length log + 1)
          (begun log (length log + 1) n legal (older_at (AStep (length log + 1)) r log n e step))) refl
    ]

pub opens : (log : List Record) → IsLegal log → IsOpenTxn (is.Begin ∷ log) (begun_txn (length log + 1))
opens log legal = record {
  is = record { begun = record_new is.Begin log; goes_on = unended_next log legal };
  last = inr (refl, λ n step. no_steps_yet log n legal step);
  undo = sym (ap (λ x. undo_from x 0) (record_at-zero (is.Begin ∷ log)));
  waits = λ n o step requests. absurd (no_steps_yet log n legal step);
  saves = tt;
  rolling = λ r at. absurd (cc);
}

-- its operation
newest_step : (r : Record) (log : List Record) (t : ℕ) → AStep t (Some r)
    → IsLatestOrNone (IsStepOf (r ∷ log) t) (length log + 1)
newest_step r log t step =
    inl (record {
      is = at_newest (AStep t) r log (length log + 1) refl step;
      greatest = λ m h. omega (arith, (step_number (r ∷ log) m t h).bounded);
    })

pub acts : (log : List Record) (o : OpenTxn) (op : Op) → answer_of log (length log + 1) ≡ None → IsOpenTxn log o
    → IsIdle log o.txn → o.rolling ≡ None
    → IsOpenTxn (is.Op o.txn o.last op ∷ log) (acted_txn o (length log + 1))
acts log o op none h idle flat =
    let r : Record = is.Op o.txn o.last op in
    record {
      is = open_kept r log o.txn refl h.is;
      last = newest_step r log o.txn refl;
      undo = sym (ap (λ x. undo_from x (length log + 1)) (record_new r log));
      waits = waits_now r log o.txn (acted_txn o (length log + 1)) refl idle (rw flat (o.last, op, record_new r log))
          none;
      saves = (bounded r log o h).saves;
      rolling = (bounded r log o h).rolling;
    }

-- the answer that it waits for
pub answer_comes : (log : List Record) (o : OpenTxn) (n : ℕ) (a : Answer) → IsOpenTxn log o → IsWaiting log o n
    → IsOpenTxn (is.Answer n a ∷ log) (answered_txn o)
answer_comes log o n a h waits =
    still_open (is.Answer n a) log o None (record { no_step = λ s. cc; ends_not = refl }) h (idle_now log o n a waits)

-- its compensation
waits_then : (i : Option Op) (log : List Record) (o : OpenTxn) (x : ℕ) (b : Rollback)
    → answer_of log (length log + 1) ≡ None → IsIdle log o.txn → o.rolling ≡ Some b
    → Waits (is.Comp o.txn o.undo x i ∷ log) (compensated_txn o (length log + 1) x i) (waits_for (length log + 1) i)
waits_then None log o x b none idle rolling = idle_after (is.Comp o.txn o.undo x None) log o.txn (λ q h. cc) idle
waits_then (Some i) log o x b none idle rolling =
    let r : Record = is.Comp o.txn o.undo x (Some i) in
    waits_now r log o.txn (compensated_txn o (length log + 1) x (Some i)) refl idle
    (rw rolling (o.undo, x, i, record_new r log)) none

pub compensates : (i : Option Op) (log : List Record) (o : OpenTxn) (x : ℕ) (b : Rollback)
    → answer_of log (length log + 1) ≡ None → IsOpenTxn log o → IsIdle log o.txn → o.rolling ≡ Some b
    → IsOpenTxn (is.Comp o.txn o.undo x i ∷ log) (compensated_txn o (length log + 1) x i)
compensates i log o x b none h idle rolling =
    let r : Record = is.Comp o.txn o.undo x i in
    record {
      is = open_kept r log o.txn refl h.is;
      last = newest_step r log o.txn refl;
      undo = sym (ap (λ y. undo_from y (length log + 1)) (record_new r log));
      waits = waits_then i log o x b none idle rolling;
      saves = (bounded r log o h).saves;
      rolling = (bounded r log o h).rolling;
    }

-- its Commit
pub commits : (log : List Record) (t u : ℕ) → IsOpen (is.Commit t ∷ log) u → (u ≢ t) × IsOpen log u
commits log t u now = (
  λ e. true≢false (sym (ap (λ b. b || has_ended log u) (eq-eqb u t e)) ∙ now.goes_on),
  open_was (is.Commit t) log (λ e. cc) u now,
)

-- its end
pub ends : (log : List Record) (t u : ℕ) → IsOpen (is.End t ∷ log) u → (u ≢ t) × IsOpen log u
ends log t u now = (
  λ e. true≢false (sym (ap (λ b. b || has_ended log u) (eq-eqb u t e)) ∙ now.goes_on),
  open_was (is.End t) log (λ e. cc) u now,
)
