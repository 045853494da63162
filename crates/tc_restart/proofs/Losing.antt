-- What is known of a transaction stays right while others write.
use Rattle.std.proofs.Common.{◌≡◌, ℕ, ◌+◌, ◌≤◌, List, ◌∷◌, length, Some, arith}
use Rattle.history.specs.declared.record.Record.{Record}
use Rattle.history.specs.declared.record.Record.TheVariants as is
use Rattle.history.specs.Log.{IsStepOf}
use Rattle.history.specs.Legal.{IsLegal}
use Rattle.log_laws.proofs.Records.{AStep}
use Rattle.log_laws.proofs.Undo.{latest_as, steps_there, steps_back, stands_there, stands_back}
use Rattle.log_laws.proofs.Named.{open_kept}
use Rattle.tc_log.proofs.Following.{goes_on, was_open}
use Rattle.tc_restart.specs.declared.loser.Loser.{Loser}
use Rattle.tc_restart.specs.Losers.{IsLoser, IsUndone, IsAt}

module _ (r : Record) (log : List Record) (legal : IsLegal (r ∷ log)) where
  -- a loser is one until it ends, and was one before
  pub loser_kept : (below t : ℕ) → (r ≡ is.Commit t → ⊥) → (r ≡ is.End t → ⊥) → IsLoser log below t
      → IsLoser (r ∷ log) below t
  loser_kept below t commits ends h = record {
    open_txn = open_kept r log t h.open_txn (goes_on r log t commits ends h.open_txn.goes_on);
    early = h.early;
  }

  pub loser_had : (below t : ℕ) → below ≤ length log + 1 → IsLoser (r ∷ log) below t → IsLoser log below t
  loser_had below t bound h = record {
    open_txn = was_open r log t (λ _ newest. omega (arith, h.early, newest, bound)) h.open_txn;
    early = h.early;
  }

  -- of a transaction that takes no step now
  pub at_kept : (x : Loser) → (AStep x.txn (Some r) → ⊥) → IsAt log x → IsAt (r ∷ log) x
  at_kept x other h = record {
    last = latest_as (IsStepOf log x.txn) (IsStepOf (r ∷ log) x.txn) (steps_back r log x.txn other)
        (steps_there r log x.txn other) x.last h.last;
    left = record {
      is = stands_there r log x.txn other legal.0 x.left h.left.is;
      greatest = λ m stands. h.left.greatest m (stands_back r log x.txn other legal.0 m stands);
    };
  }

  pub undone_kept : (t : ℕ) → (AStep t (Some r) → ⊥) → IsUndone log t → IsUndone (r ∷ log) t
  undone_kept t other h = λ n stands. h n (stands_back r log t other legal.0 n stands)
