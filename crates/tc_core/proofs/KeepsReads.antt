-- What holds of the transaction component is kept when a client asks for a read, and when it is told.
use Rattle.std.proofs.Common.{◌≡◌, ◌≢◌, ℕ, ◌+◌, ◌<◌, true, false, List, ◌∷◌, Option, Some, None, refl, sym, ap, ◌∙◌, subst, arith, inl, inr, true≢false, eq-eqb, eqb-true}
use Rattle.std.proofs.lemmas.Bool.{cases_Bool}
use Rattle.record_key.specs.declared.op.Op.{Op}
use Rattle.record_key.specs.Table.{key_of}
use Rattle.history.specs.declared.record.Record.{Record}
use Rattle.history.specs.Log.{IsOpen, IsOpBy}
use Rattle.record_key.specs.Order.{has_key, HasKeys}
use Rattle.tc_locks.specs.Meant.{range_of}
use Rattle.history.specs.Spans.{Conflict, changed_span}
use Rattle.history.specs.Spans as law
use Rattle.tc_locks.specs.declared.span.Span.{Span}
use Rattle.tc_locks.specs.Locks.{spans_of, IsGrantable}
use Rattle.tc_locks.proofs.Tables.{set_own, set_other}
use Rattle.tc_core.specs.declared.open_txn.OpenTxn.{OpenTxn}
use Rattle.tc_core.specs.declared.open_txn.Read.{Read}
use Rattle.tc_core.specs.declared.open_txns.Wanted.TheVariants.{Reader}
use Rattle.tc_core.specs.OpenTxns.{find, is_read, wants}
use Rattle.tc_core.specs.Locking.{ConflictNowhere}
use Rattle.tc_core.proofs.LettingGo.{early_taken}
use Rattle.tc_core.proofs.Losers.{late_at}
use Rattle.tc_core.specs.TcView.{TcView}
use Rattle.tc_core.specs.Changes.{shared, reading_txn, asked_read, told_txn, was_told}
use Rattle.tc_core.specs.Replies.{reader}
use Rattle.tc_core.specs.Kept.{IsTc, closing, IsOpenTxn, Waits, IsReading}
use Rattle.tc_core.proofs.Finding.{IsOldest, oldest_none, oldest_found}
use Rattle.tc_core.proofs.HeldSpans.{within_itself, reader_conflicts}
use Rattle.tc_core.proofs.LocksHeld.{replaced, shares}
use Rattle.tc_core.proofs.Readings.{reads_replaced, reads_asked}
use Rattle.tc_core.proofs.KeepsOpen.{replaced_open}
use Rattle.tc_core.proofs.KeepsTc.{open_at, reading_at, held_by}

-- what an open transaction does besides its read stays
waits_alike : (log : List Record) (o : OpenTxn) (r : Option Read) (n : Option ℕ) → Waits log o n
    → Waits log (record o { reading = r }) n
waits_alike log o r None h = h
waits_alike log o r (Some n) h = record { request = h.request; unanswered = h.unanswered; only = h.only }

open_alike : (log : List Record) (o : OpenTxn) (r : Option Read) → IsOpenTxn log o
    → IsOpenTxn log (record o { reading = r })
open_alike log o r h = record {
  is = h.is;
  last = h.last;
  undo = h.undo;
  waits = waits_alike log o r o.waiting h.waits;
  saves = h.saves;
  rolling = h.rolling;
}

pub keeps_ask : (w : TcView) (o : OpenTxn) (s : Span) → IsTc w → find o.txn w.open_txns ≡ Some o → o.waiting ≡ None
    → o.rolling ≡ None
    → HasKeys (range_of s) → IsGrantable w.locks o.txn (shared s) → w.reads < 281474976710655 → IsTc (asked_read w o s)
keeps_ask w o s k at none flat range free unspent =
    let r : Read = record { number = w.reads + 1; span = s } in
    let new : OpenTxn = reading_txn o (w.reads + 1) s in
    record {
      legal = k.legal;
      within = k.within;
      few = record { records = k.few.records; reads = omega (arith, unspent) };
      session = k.session;
      phase = k.phase;
      asking = k.asking;
      low = k.low;
      open_txns = replaced_open w.log w.log w.losers.below w.open_txns k.open_txns new o at
          (open_alike w.log o (Some r) (open_at w o k at)) (λ p apart same. same) (λ t same. same);
      committing = k.committing;
      lost = k.lost;
      locks = shares w.log w.open_txns (closing w) w.locks k.locks new o (shared s) at refl free;
      early = early_taken w.losers.below o.txn (shared s ∷ spans_of w.locks o.txn) w.locks k.locks.table
          (late_at w o k at) k.early;
      reading = reads_asked w.reads w.open_txns w.locks k.reading new o r (w.reads + 1) _ at refl (omega arith)
          (omega arith)
          (λ u apart. set_other o.txn (shared s ∷ spans_of w.locks o.txn) w.locks u k.locks.table apart)
          (record {
            idle = none;
            flat = flat;
            asked = omega arith;
            range = range;
            before = spans_of w.locks o.txn;
            held = set_own o.txn (shared s ∷ spans_of w.locks o.txn) w.locks k.locks.table;
          });
    }

pub keeps_told : (w : TcView) (o : OpenTxn) → IsTc w → find o.txn w.open_txns ≡ Some o → IsTc (was_told w o)
keeps_told w o k at = record {
  legal = k.legal;
  within = k.within;
  few = record { records = k.few.records; reads = k.few.reads };
  session = k.session;
  phase = k.phase;
  asking = k.asking;
  low = k.low;
  open_txns = replaced_open w.log w.log w.losers.below w.open_txns k.open_txns (told_txn o) o at
      (open_alike w.log o None (open_at w o k at)) (λ p apart same. same) (λ t same. same);
  committing = k.committing;
  lost = k.lost;
  locks = replaced w.log w.open_txns (closing w) w.locks k.locks (told_txn o) o at;
  early = k.early;
  reading = reads_replaced w.reads w.open_txns w.locks k.reading (told_txn o) o w.locks at refl (λ u apart. refl);
}

-- whoever asked a read is an open transaction
read_is : (x : Option Read) (n : ℕ) → is_read n x ≡ true → (s : Span) × (x ≡ Some (record { number = n; span = s }))
read_is None n h = absurd (cc)
read_is (Some r) n h = (
  r.span,
  ap (λ (m : ℕ). let q : Read = record { number = m; span = r.span } in let x : Option Read = Some q in x)
      (eqb-true r.number n h),
)

pub reader_is : (w : TcView) (n : ℕ) (o : OpenTxn) → IsTc w → reader w n ≡ Some o
    → (find o.txn w.open_txns ≡ Some o) × ((s : Span) × (o.reading ≡ Some (record { number = n; span = s })))
reader_is w n o k is =
    let h : IsOldest (wants (Reader n)) w.open_txns o =
    oldest_found (wants (Reader n)) w.open_txns o k.open_txns.order is in
    (h.found, read_is o.reading n h.passes)

-- and each that waits for a read is found by its number
pub reads : (w : TcView) (o : OpenTxn) (n : ℕ) (s : Span) → IsTc w → find o.txn w.open_txns ≡ Some o
    → o.reading ≡ Some (record { number = n; span = s }) → reader w n ≡ Some o
reads w o n s k at some = pick (reader w n) refl
  where
    the_read : Read
    the_read = record { number = n; span = s }

    pick : (x : Option OpenTxn) → reader w n ≡ x → reader w n ≡ Some o
    pick None is =
        let test : is_read n o.reading ≡ true = ap (is_read n) some ∙ eq-eqb n n refl in
        absurd (true≢false (sym test ∙ oldest_none (wants (Reader n)) w.open_txns is o.txn o at))
    pick (Some p) is =
        let h = reader_is w n p k is in
        let its : Read = record { number = n; span = h.1.0 } in
        let same : p.txn ≡ o.txn = k.reading.apart p.txn o.txn p o its the_read h.0 at h.1.1 some refl in
        let P : ℕ → Type 0 = λ t. find t w.open_txns ≡ Some p in
        is ∙ sym (subst P same h.0) ∙ at

-- no operation of another open transaction is in the span that is read
pub held_apart : (w : TcView) (o : OpenTxn) (r : Read) (n u : ℕ) (q : Op) → IsTc w → find o.txn w.open_txns ≡ Some o
    → o.reading ≡ Some r → IsOpBy w.log n u q → IsOpen w.log u → u ≢ o.txn
    → has_key (range_of r.span) (key_of q) ≡ false
held_apart w o r n u q k at some by open_u other =
    elim (cases_Bool (has_key (range_of r.span) (key_of q))) [
      | inl within ↦
          let h : IsReading w.reads w.locks o r = reading_at w o r k at some in
          let clash : Conflict (shared r.span) (changed_span q) =
          (key_of q, within, within_itself (key_of q), reader_conflicts q) in
          let P : List law.Span → Type 0 = λ xs. ConflictNowhere xs (spans_of w.locks u) in
          absurd ((subst P h.held (k.locks.apart o.txn u (λ e. other (sym e)))).0
          (held_by w n u q (shared r.span) k by open_u clash))
      | inr outside ↦ outside
    ]
