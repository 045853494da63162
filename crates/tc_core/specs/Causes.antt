-- What each call is refused for: the first of its causes that holds.
use Rattle.std.specs.Prelude.{◌≡◌, ◌⊎◌, ℕ, ◌&&◌, ◌||◌, Bool, false, true, not, nat_le, nat_lt, List, [], ◌∷◌, Option, Some, None, is_some, length}
use Rattle.record_key.specs.declared.refusal.Refusal.{Refusal}
use Rattle.record_key.specs.declared.refusal.Refusal.TheVariants.{NotConnected, Redoing, NotOpen, RollingBack, Unanswered, Full, BadSavepoint, BadRange, Busy, NumbersSpent, Unsent}
use Rattle.record_key.specs.FirstCause.{first_of, or_else}
use Rattle.history.specs.Spans.{Span}
use Rattle.record_key.specs.Order.{Range, ends_above}
use Rattle.tc_locks.specs.Locks.{IsGrantable, IsLeastHolder}
use Rattle.tc_core.specs.declared.open_txn.OpenTxn.{OpenTxn}
use Rattle.tc_core.specs.declared.open_txn.Rollback.{Rollback}
use Rattle.tc_log.specs.LogView.{is_spent, spent_refusal}
use Rattle.tc_core.specs.OpenTxns.{find}
use Rattle.tc_core.specs.TcView.{TcView, is_unconnected, is_running, is_serving, is_rolling, is_waiting}
use Rattle.tc_core.specs.Refusing.{Refuses}

-- what is told to the data component waits until no loser is left
abbrev pub running_refusal : TcView → Option Refusal
running_refusal w = first_of ((is_unconnected w.phase, NotConnected) ∷ (not (is_running w.phase), Redoing) ∷ [])

-- clients are served once redo has ended
abbrev pub serving_refusal : TcView → Option Refusal
serving_refusal w = first_of ((is_unconnected w.phase, NotConnected) ∷ (not (is_serving w.phase), Redoing) ∷ [])

-- the causes that stand before all others where a transaction is named
abbrev pub open_refusal : TcView → ℕ → Option Refusal
open_refusal w t = or_else (serving_refusal w) (first_of ((not (is_some (find t w.open_txns)), NotOpen) ∷ []))

-- where it must be idle besides
abbrev pub idle_refusal : TcView → ℕ → Option Refusal
idle_refusal w t =
    or_else (open_refusal w t)
    (first_of ((is_rolling (find t w.open_txns), RollingBack) ∷ (is_waiting (find t w.open_txns), Unanswered) ∷ []))

-- no more than 64 transactions are open
abbrev pub is_full : List OpenTxn → Bool
is_full os = nat_le 64 (length os)

abbrev pub begin_refusal : TcView → Option Refusal
begin_refusal w = or_else (serving_refusal w)
    (first_of ((is_full w.open_txns, Full) ∷ (is_spent w.log, NumbersSpent) ∷ []))

abbrev pub commit_refusal : TcView → ℕ → Option Refusal
commit_refusal w t = or_else (idle_refusal w t) (spent_refusal w.log)

abbrev pub saves_of : Option OpenTxn → List ℕ
saves_of None = []
saves_of (Some o) = o.saves

-- no more than 16 savepoints are present
abbrev pub save_refusal : TcView → ℕ → Option Refusal
save_refusal w t = or_else (idle_refusal w t)
    (first_of ((nat_le 16 (length (saves_of (find t w.open_txns))), Full) ∷ []))

-- savepoints count from 1 on
abbrev pub has_savepoint : List ℕ → ℕ → Bool
has_savepoint saves s = nat_le 1 s && nat_le s (length saves)

abbrev pub back_refusal : TcView → ℕ → ℕ → Option Refusal
back_refusal w t s =
    or_else (idle_refusal w t) (first_of ((not (has_savepoint (saves_of (find t w.open_txns)) s), BadSavepoint) ∷ []))

-- a read asks for a range, and has a number of its own
abbrev pub read_refusal : TcView → ℕ → Range → Option Refusal
read_refusal w t r = or_else (first_of ((not (ends_above r.hi r.lo), BadRange) ∷ [])) (idle_refusal w t)

abbrev pub reads_spent : ℕ → Option Refusal
reads_spent reads = first_of ((nat_le 281474976710655 reads, NumbersSpent) ∷ [])

-- a call that takes a span is refused for a cause before that; else since another holds what conflicts, with the
-- least such; else as any other call
abbrev pub RefusesTaking : Option Refusal → Option Refusal → Bool → TcView → ℕ → Span → Refusal → TcView → Type 0
RefusesTaking (Some cause) spent device old t s r new = (r ≡ cause) × (new ≡ old)
RefusesTaking None spent device old t s r new =
    ((u : ℕ) × (r ≡ Busy u) × IsLeastHolder old.locks t s u × (new ≡ old))
    ⊎ (IsGrantable old.locks t s × Refuses spent true device old r new)

abbrev pub answered_refusal : TcView → ℕ → Option Refusal
answered_refusal w t = or_else (open_refusal w t) (first_of ((is_waiting (find t w.open_txns), Unanswered) ∷ []))

-- a step of a rollback logs a compensation, or the end of a whole rollback; that of a rollback to a savepoint
-- isn't logged
abbrev pub logs_next : ℕ → Option Rollback → Bool
logs_next undo None = false
logs_next undo (Some r) = nat_lt r.above undo || not (is_some r.savepoint)

abbrev pub undo_logs : Option OpenTxn → Bool
undo_logs None = false
undo_logs (Some o) = logs_next o.undo o.rolling

abbrev pub undo_refusal : TcView → ℕ → Option Refusal
undo_refusal w t =
    or_else (answered_refusal w t) (first_of ((undo_logs (find t w.open_txns) && is_spent w.log, NumbersSpent) ∷ []))

abbrev pub resend_refusal : TcView → ℕ → Option Refusal
resend_refusal w t =
    or_else (open_refusal w t)
    (first_of ((not (is_waiting (find t w.open_txns)), Unsent) ∷ []))
