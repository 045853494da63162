-- A compensation, and the end of a rollback, keep what holds of the transaction component.
use Rattle.std.proofs.Common.{if◌then◌else◌, ◌≡◌, ℕ, ◌+◌, ◌<◌, ◌≤◌, false, is_some, [], ◌∷◌, ◌++◌, List, length, Option, Some, None, refl, sym, ap, ◌∙◌, subst, arith, inl, inr}
use Rattle.record_key.specs.declared.op.Op.{Op}
use Rattle.history.specs.declared.record.Record.{Record}
use Rattle.history.specs.declared.record.Record.TheVariants as is
use Rattle.history.specs.Legal.{Fits, Inverts, IsLatestOrNone, IsLegal, Stands}
use Rattle.log_laws.proofs.LegalLogs.{stands_number}
use Rattle.log_laws.proofs.Checking.{latest_unique}
use Rattle.log_laws.proofs.Undo.{latest_found, earlier_found}
use Rattle.tc_undo.specs.NextUndo.{Compensates, IsUndone}
use Rattle.tc_locks.proofs.Tables.{set_other}
use Rattle.tc_core.specs.declared.open_txn.OpenTxn.{OpenTxn}
use Rattle.tc_core.specs.declared.open_txn.Rollback.{Rollback}
use Rattle.tc_core.specs.OpenTxns.{find}
use Rattle.tc_log.specs.LogView.{is_spent}
use Rattle.tc_core.specs.TcView.{TcView}
use Rattle.tc_log.specs.Undoing.{inverse_at, next_at}
use Rattle.tc_core.specs.Changes.{waits_for, compensated_txn, compensated, wholly_undone, committed}
use Rattle.tc_core.specs.Kept.{IsTc, closing}
use Rattle.tc_core.proofs.Committing.{holder_closing, commits_more}
use Rattle.tc_restart.specs.Losers.{txns}
use Rattle.tc_core.proofs.Low.{low_longer}
use Rattle.tc_core.proofs.LettingGo.{early_freed}
use Rattle.tc_core.proofs.Losers.{lost_more, late_at}
use Rattle.tc_core.proofs.Keeps.{open_was}
use Rattle.tc_core.proofs.KeepsOpen.{replaced_open, without_open}
use Rattle.tc_core.proofs.KeepsSteps.{step_leaves, end_leaves, commit_leaves, compensates, ends, commits}
use Rattle.tc_core.proofs.LocksHeld.{alike, longer, replaced, gives_back}
use Rattle.tc_core.proofs.Readings.{no_reading, reads_replaced, reads_ended}
use Rattle.tc_core.proofs.KeepsTc.{one_more, unlisted, open_at, idle_at, reading_at, none_next}

-- what is left to undo is the latest operation that stands
pub undo_found : (w : TcView) (o : OpenTxn) → IsTc w → find o.txn w.open_txns ≡ Some o
    → IsLatestOrNone (Stands w.log o.txn) o.undo
undo_found w o k at =
    let h = open_at w o k at in
    let P : ℕ → Type 0 = IsLatestOrNone (Stands w.log o.txn) in
    subst P (sym h.undo) (latest_found w.log o.txn k.legal o.last h.last)

-- the inverse is that by the operation and its answer
inverse_is : (log : List Record) (u : ℕ) (i : Option Op) → Inverts log u i → i ≡ inverse_at log u
inverse_is log u i h = rw (h.is, h.answered) h.inverse

-- so the compensation that fits is that of what is left to undo
pub comp_is : (log : List Record) (t u above : ℕ) (r : Record) → IsLegal log → IsLatestOrNone (Stands log t) u
    → Compensates log t above r → (r ≡ is.Comp t u (next_at log u) (inverse_at log u)) × (above < u)
comp_is log t u above r legal left h =
    let same : h.undoes ≡ u = latest_unique (Stands log t) h.undoes u (inl h.fits.latest) left in
    let next : h.next ≡ next_at log h.undoes =
    latest_unique (λ n. Stands log t n × (n < h.undoes)) h.next (next_at log h.undoes) h.fits.next
    (earlier_found log t h.undoes legal h.fits.latest.is) in
    let inverse : h.inverse ≡ inverse_at log h.undoes = inverse_is log h.undoes h.inverse h.fits.inverse in
    (h.is ∙ rw (next, inverse, same) refl, omega (arith, h.above_bound, same))

pub is_comp : (w : TcView) (o : OpenTxn) (above : ℕ) (r : Record) → IsTc w → find o.txn w.open_txns ≡ Some o
    → Compensates w.log o.txn above r
    → (r ≡ is.Comp o.txn o.undo (next_at w.log o.undo) (inverse_at w.log o.undo)) × (above < o.undo)
is_comp w o above r k at h = comp_is w.log o.txn o.undo above r k.legal (undo_found w o k at) h

pub fits_comp : (log : List Record) (t above : ℕ) (r : Record) → Compensates log t above r → Fits log r
fits_comp log t above r h = rw h.is h.fits

-- nothing above the bound is left
pub none_left : (w : TcView) (o : OpenTxn) (above : ℕ) → IsTc w → find o.txn w.open_txns ≡ Some o
    → IsUndone w.log o.txn above → o.undo ≤ above
none_left w o above k at undone =
    elim (undo_found w o k at) [ inl latest ↦ undone o.undo latest.is | inr none ↦ omega (arith, none.0) ]

pub keeps_comp : (w : TcView) (o : OpenTxn) (b : Rollback) → IsTc w → find o.txn w.open_txns ≡ Some o
    → o.waiting ≡ None → o.rolling ≡ Some b
    → Fits w.log (is.Comp o.txn o.undo (next_at w.log o.undo) (inverse_at w.log o.undo)) → is_spent w.log ≡ false
    → IsTc (compensated w o)
keeps_comp w o b k at none rolling fits unspent =
    let h = open_at w o k at in
    let next : ℕ = next_at w.log o.undo in
    let i : Option Op = inverse_at w.log o.undo in
    let r : Record = is.Comp o.txn o.undo next i in
    let new : OpenTxn = compensated_txn o (length w.log + 1) next i in
    record {
      legal = (fits, k.legal);
      within = omega (arith, k.within);
      few = record { records = omega (arith, one_more w.log unspent); reads = k.few.reads };
      session = k.session;
      phase = k.phase;
      asking = k.asking;
      low = low_longer w k r refl;
      open_txns = replaced_open w.log (r ∷ w.log) w.losers.below w.open_txns k.open_txns new o at
          (compensates i w.log o next b (none_next w.log k.legal) h (idle_at w.log o h none) rolling)
          (step_leaves r w.log o.txn refl (λ n. refl)) (open_was r w.log (λ e. cc));
      committing = k.committing;
      lost = lost_more w k r fits (late_at w o k at) (λ n. refl);
      locks = replaced (r ∷ w.log) w.open_txns (closing w) w.locks
          (longer w.log w.open_txns (closing w) w.locks k.locks r refl) new o at;
      early = k.early;
      reading = reads_replaced w.reads w.open_txns w.locks k.reading new o w.locks at
          (no_reading o.reading (λ q reads. let flat : Some b ≡ None = sym rolling
          ∙ (reading_at w o q k at reads).flat in absurd (cc))) (λ u apart. refl);
    }

-- an end
pub fits_end : (w : TcView) (o : OpenTxn) → IsTc w → find o.txn w.open_txns ≡ Some o → o.waiting ≡ None
    → IsUndone w.log o.txn 0 → Fits w.log (is.End o.txn)
fits_end w o k at none undone =
    let h = open_at w o k at in
    record {
      open_txn = h.is;
      idle = idle_at w.log o h none;
      undone = λ n stands. omega (arith, undone n stands, (stands_number w.log o.txn n stands).positive);
    }

pub keeps_end : (w : TcView) (o : OpenTxn) → IsTc w → find o.txn w.open_txns ≡ Some o → Fits w.log (is.End o.txn)
    → is_spent w.log ≡ false → IsTc (wholly_undone w o.txn)
keeps_end w o k at fits unspent = record {
  legal = (fits, k.legal);
  within = omega (arith, k.within);
  few = record { records = omega (arith, one_more w.log unspent); reads = k.few.reads };
  session = k.session;
  phase = k.phase;
  asking = k.asking;
  low = low_longer w k (is.End o.txn) refl;
  open_txns = without_open w.log (is.End o.txn ∷ w.log) w.losers.below w.open_txns k.open_txns o.txn
      (end_leaves w.log o.txn) (ends w.log o.txn);
  committing = k.committing;
  lost = lost_more w k (is.End o.txn) fits (late_at w o k at) (λ n. refl);
  locks = gives_back w.log w.open_txns (closing w) w.locks k.locks o.txn (unlisted w o k at);
  early = early_freed w.losers.below o.txn w.locks k.locks.table k.early;
  reading = reads_ended w.reads w.open_txns w.locks k.reading o.txn
      _ (λ u apart. set_other o.txn [] w.locks u k.locks.table apart);
}

-- a commit
pub fits_commit : (w : TcView) (o : OpenTxn) → IsTc w → find o.txn w.open_txns ≡ Some o → o.waiting ≡ None
    → Fits w.log (is.Commit o.txn)
fits_commit w o k at none = let h = open_at w o k at in record { open_txn = h.is; idle = idle_at w.log o h none }

pub keeps_commit : (w : TcView) (o : OpenTxn) → IsTc w → find o.txn w.open_txns ≡ Some o → o.waiting ≡ None
    → is_spent w.log ≡ false → IsTc (committed w o.txn)
keeps_commit w o k at none unspent = record {
  legal = (fits_commit w o k at none, k.legal);
  within = omega (arith, k.within);
  few = record { records = omega (arith, one_more w.log unspent); reads = k.few.reads };
  session = k.session;
  phase = k.phase;
  asking = k.asking;
  low = low_longer w k (is.Commit o.txn) refl;
  open_txns = without_open w.log (is.Commit o.txn ∷ w.log) w.losers.below w.open_txns k.open_txns o.txn
      (commit_leaves w.log o.txn) (commits w.log o.txn);
  committing = ap (λ ts. ts ++ o.txn ∷ []) k.committing ∙ sym (commits_more w.log w.stable o.txn k.within);
  lost = lost_more w k (is.Commit o.txn) (fits_commit w o k at none) (late_at w o k at) (λ n. refl);
  locks = alike w.log w.open_txns (closing w) w.locks k.locks (is.Commit o.txn) _ _ refl
      (holder_closing w.open_txns w.committing (txns w.losers) o.txn o at);
  early = k.early;
  reading = reads_ended w.reads w.open_txns w.locks k.reading o.txn w.locks (λ u apart. refl);
}

-- a compensation waits for its answer just where it asks for something
pub waits : (i : Option Op) (n : ℕ) → (if is_some i then Some n else None) ≡ waits_for n i
waits None n = refl
waits (Some i) n = refl
