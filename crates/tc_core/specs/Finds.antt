-- The open transaction that a call names, where it may make the call.
use Rattle.std.specs.Prelude.{◌≡◌, ℕ, true, None}
use Rattle.tc_core.specs.declared.open_txn.OpenTxn.{OpenTxn}
use Rattle.tc_core.specs.TcView.{TcView, is_serving}
use Rattle.tc_core.specs.Causes.{open_refusal, answered_refusal, idle_refusal}
use Rattle.tc_core.specs.Calls.{IsAt}

-- clients are served
pub record FindsOpen (w : TcView) (t : ℕ) (o : OpenTxn) : Type 0 where
  pub at : IsAt w t o
  pub serving : is_serving w.phase ≡ true
  pub allowed : open_refusal w t ≡ None

-- and it waits for nothing
pub record FindsAnswered (w : TcView) (t : ℕ) (o : OpenTxn) : Type 0 where
  pub at : IsAt w t o
  pub allowed : answered_refusal w t ≡ None
  pub waiting : o.waiting ≡ None
  pub reading : o.reading ≡ None

-- and isn't being rolled back
pub record FindsIdle (w : TcView) (t : ℕ) (o : OpenTxn) : Type 0 where
  pub at : IsAt w t o
  pub allowed : idle_refusal w t ≡ None
  pub waiting : o.waiting ≡ None
  pub reading : o.reading ≡ None
  pub rolling : o.rolling ≡ None
