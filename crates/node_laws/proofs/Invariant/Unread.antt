-- Nothing that waits for its answer is done to the keys that a transaction reads.
use Rattle.std.proofs.Common.{◌≡◌, ◌≢◌, ℕ, false, Some, None, is_some, sym, ap, ◌∙◌, subst, arith, inl, inr, true≢false}
use Rattle.tc_locks.specs.Meant.{range_of}
use Rattle.record_key.specs.declared.op.Op.{Op}
use Rattle.record_key.specs.Table.{key_of}
use Rattle.record_key.specs.Order.{has_key}
use Rattle.history.specs.Log.{answer_of, Requests}
use Rattle.tc_core.specs.declared.open_txn.OpenTxn.{OpenTxn}
use Rattle.tc_core.specs.declared.open_txn.Read.{Read}
use Rattle.tc_core.specs.OpenTxns.{find}
use Rattle.tc_core.specs.TcView.{TcView}
use Rattle.tc_core.specs.Kept.{IsTc}
use Rattle.tc_core.proofs.KeepsReads.{held_apart}
use Rattle.tc_core.proofs.Losers.{late_at}
use Rattle.tc_core.proofs.KeepsTc.{open_at, reading_at}
use Rattle.node_laws.proofs.Machine.Waited.{answered_or_due, own_key}

-- a request without an answer is of another transaction, which holds its key
pub unread : (w : TcView) (o : OpenTxn) (r : Read) (n : ℕ) (q : Op) → IsTc w → find o.txn w.open_txns ≡ Some o
    → o.reading ≡ Some r → Requests w.log n q → answer_of w.log n ≡ None
    → has_key (range_of r.span) (key_of q) ≡ false
unread w o r n q k at reads requests unanswered =
    elim (answered_or_due w n q k requests) [
      | inl some ↦ absurd (true≢false (sym some ∙ ap is_some unanswered))
      | inr (inl a) ↦
          let own = own_key w.log n a.open_txn.txn q k.legal a.step requests in
          let other : a.open_txn.txn ≢ o.txn = λ e.
          let F : ℕ → Type 0 = λ t. find t w.open_txns ≡ Some a.open_txn in
          let same : Some a.open_txn ≡ Some o = sym (subst F e a.is) ∙ at in
          let none : o.waiting ≡ None = (reading_at w o r k at reads).idle in
          let waits : Some n ≡ None =
          sym a.waiting ∙ ap (λ (x : OpenTxn). x.waiting) (let p : a.open_txn ≡ o = cc in p) ∙ none in
          cc in
          ap (has_key (range_of r.span)) own.key
          ∙ held_apart w o r own.number a.open_txn.txn own.op k at reads own.is (open_at w a.open_txn k a.is).is
          other
      | inr (inr due) ↦
          let own = own_key w.log n due.txn q k.legal due.step requests in
          let other : due.txn ≢ o.txn = λ e. omega (arith, e, due.loser.early, late_at w o k at) in
          ap (has_key (range_of r.span)) own.key
          ∙ held_apart w o r own.number due.txn own.op k at reads own.is due.loser.open_txn other
    ]
