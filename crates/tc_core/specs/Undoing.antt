-- A transaction that a step of a rollback may be made of.
use Rattle.std.specs.Prelude.{◌≡◌, ℕ, Some}
use Rattle.tc_core.specs.declared.open_txn.OpenTxn.{OpenTxn}
use Rattle.tc_core.specs.declared.open_txn.Rollback.{Rollback}
use Rattle.tc_core.specs.TcView.{TcView}
use Rattle.tc_core.specs.Finds.{FindsAnswered}

-- it is rolled back so, and waits for nothing
pub record MayStep (w : TcView) (t : ℕ) (r : Rollback) : Type 0 where
  pub open_txn : OpenTxn
  pub found : FindsAnswered w t open_txn
  pub rolling : open_txn.rolling ≡ Some r
