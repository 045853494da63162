-- What an open transaction has left to undo.
use Rattle.std.proofs.Common.{◌≡◌, ℕ, ◌≤◌, Some, arith, inl, inr}
use Rattle.history.specs.Legal.{Stands}
use Rattle.tc_core.specs.declared.open_txn.OpenTxn.{OpenTxn}
use Rattle.tc_core.specs.declared.open_txn.Rollback.{Rollback}
use Rattle.tc_core.specs.OpenTxns.{find}
use Rattle.tc_core.specs.TcView.{TcView}
use Rattle.tc_core.specs.Kept.{IsTc}
use Rattle.tc_core.proofs.KeepsUndo.{undo_found}

-- where nothing above the bound is left, no operation above it stands
pub undone_above : (w : TcView) (o : OpenTxn) (r : Rollback) → IsTc w → find o.txn w.open_txns ≡ Some o
    → o.undo ≤ r.above → (n : ℕ) → Stands w.log o.txn n → n ≤ r.above
undone_above w o r k at most n stands = elim (undo_found w o k at) [
  | inl latest ↦ omega (arith, latest.greatest n stands, most)
  | inr none ↦ absurd (none.1 n stands)
]
