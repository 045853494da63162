-- What an open transaction waits for: an operation, or in a rollback a compensation.
use Rattle.std.proofs.Common.{◌≡◌, ℕ, Bool, true, false, MatchBool, Option, Some, None, List, refl, sym, ◌∙◌, subst, true≢false}
use Rattle.record_key.specs.declared.op.Op.{Op}
use Rattle.history.specs.declared.record.Record.{Record}
use Rattle.history.specs.declared.record.Record.TheVariants as is
use Rattle.history.specs.Log.{record_at, op_in, IsOpBy}
use Rattle.tc_core.specs.declared.open_txn.OpenTxn.{OpenTxn}
use Rattle.tc_core.specs.declared.open_txn.Read.{Read}
use Rattle.tc_core.specs.OpenTxns.{find}
use Rattle.tc_core.specs.TcView.{TcView, rolls_back}
use Rattle.tc_core.specs.Kept.{IsTc, IsRequest}
use Rattle.tc_core.proofs.KeepsTc.{reading_at}

-- the operation that is waited for, outside a rollback
pub record IsOpOf (log : List Record) (o : OpenTxn) (n : ℕ) : Type 0 where
  pub op : Op
  pub is : IsOpBy log n o.txn op

op_at : (b : Bool) (log : List Record) (o : OpenTxn) (n : ℕ) → b ≡ false
    → MatchBool b ((u : ℕ) × (x : ℕ) × (i : Op) × (record_at log n ≡ Some (is.Comp o.txn u x (Some i))))
    ((p : ℕ) × (op : Op) × (record_at log n ≡ Some (is.Op o.txn p op)))
    → IsOpOf log o n
op_at true log o n flat h = absurd (true≢false flat)
op_at false log o n flat h = record { op = h.1; is = rw h.2 refl }

pub op_waited : (log : List Record) (o : OpenTxn) (n : ℕ) → rolls_back o ≡ false → IsRequest log o n → IsOpOf log o n
op_waited log o n flat h = op_at (rolls_back o) log o n flat h

no_op_at : (b : Bool) (log : List Record) (o : OpenTxn) (n : ℕ) → b ≡ true
    → MatchBool b ((u : ℕ) × (x : ℕ) × (i : Op) × (record_at log n ≡ Some (is.Comp o.txn u x (Some i))))
    ((p : ℕ) × (op : Op) × (record_at log n ≡ Some (is.Op o.txn p op)))
    → (t : ℕ) (q : Op) → IsOpBy log n t q → ⊥
no_op_at false log o n rolling h t q by = true≢false (sym rolling)
no_op_at true log o n rolling h t q by = let there : op_in (Some (is.Comp o.txn h.0 h.1 (Some h.2))) ≡ Some (t, q) =
    subst (λ r. op_in r ≡ Some (t, q)) h.3 by in cc

-- in a rollback it is a compensation
pub comp_waited : (log : List Record) (o : OpenTxn) (n : ℕ) → rolls_back o ≡ true → IsRequest log o n
    → (t : ℕ) (q : Op) → IsOpBy log n t q → ⊥
comp_waited log o n rolling h = no_op_at (rolls_back o) log o n rolling h

-- whoever waits for an answer reads nothing
pub reads_nothing : (w : TcView) (o : OpenTxn) (n : ℕ) → IsTc w → find o.txn w.open_txns ≡ Some o → o.waiting ≡ Some n
    → o.reading ≡ None
reads_nothing w o n k at some = by o.reading refl
  where
    by : (x : Option Read) → o.reading ≡ x → x ≡ None
    by None e = refl
    by (Some r) e = let both : Some n ≡ None = sym some ∙ (reading_at w o r k at e).idle in absurd (cc)
