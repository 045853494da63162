-- What a log opens as, with its losers in one order.
use Rattle.std.specs.Prelude.{◌≡◌, ◌⊎◌, ℕ, ◌+◌, ◌≤◌, ◌==◌, Bool, not, List, [], ◌∷◌, length, map, filter, if◌then◌else◌}
use Rattle.history.specs.declared.record.Record.{Record}
use Rattle.history.specs.declared.record.Record.TheVariants as is
use Rattle.history.specs.Log.{record_at, has_ended, step_of}
use Rattle.history.specs.Legal.{IsLegal}
use Rattle.history.specs.Chains.{undo_from}
use Rattle.framed_log.specs.Beginning.{beginning}
use Rattle.stable.specs.Usage.{Usage, called_often}
use Rattle.tc_log.specs.Opening.{IsLogOf, cut_calls}
use Rattle.tc_locks.specs.Locks.{LocksView, set_spans}
use Rattle.tc_restart.specs.declared.loser.Loser.{Loser}
use Rattle.tc_restart.specs.Losers.{LosersView, txns}
use Rattle.tc_log.specs.Checkpointed.{raised_by}
use Rattle.tc_core.specs.Locking.{op_spans, is_listed}
use Rattle.tc_core.specs.Opening.{opened, IsOpened}
use Rattle.tc_core.specs.Replies.{is_number}
use Rattle.tc_core.specs.TcView.{TcView}
use Rattle.tc_core.specs.Kept.{IsTc}

-- the greatest number that a Checkpoint record names, 0 if none
abbrev pub checkpointed_in : List Record → ℕ
checkpointed_in [] = 0
checkpointed_in (r ∷ log) = raised_by r (checkpointed_in log)

-- the transactions that began, and those of them that are open, the newest first
abbrev pub begun_in : List Record → List ℕ
begun_in [] = []
begun_in (is.Begin ∷ log) = (length log + 1) ∷ begun_in log
begun_in (r ∷ log) = begun_in log

abbrev pub open_in : List Record → List ℕ
open_in log = filter (λ t. not (has_ended log t)) (begun_in log)

-- a transaction's latest Op or Comp record, 0 if it has none
abbrev pub last_in : List Record → ℕ → ℕ
last_in [] t = 0
last_in (r ∷ log) t = if is_number (step_of r) t then length log + 1 else last_in log t

-- what it has left to undo
abbrev pub loser_in : List Record → ℕ → Loser
loser_in log t = record {
  left = undo_from (record_at log (last_in log t)) (last_in log t);
  txn = t;
  last = last_in log t;
}

abbrev pub is_undone : List Record → ℕ → Bool
is_undone log t = (loser_in log t).left == 0

-- each open transaction is a loser, and holds the keys of its operations
abbrev pub losers_of : List Record → LosersView
losers_of log = record {
  below = length log + 1;
  undoing = map (loser_in log) (filter (λ t. not (is_undone log t)) (open_in log));
  done = filter (is_undone log) (open_in log);
}

abbrev pub locks_in : List Record → List ℕ → LocksView
locks_in log [] = []
locks_in log (t ∷ ts) = set_spans t (op_spans log t) (locks_in log ts)

abbrev pub locks_of : List Record → LocksView
locks_of log = locks_in log (open_in log)

-- the log's device was used so
abbrev pub opens_as : List Record → Usage → TcView
opens_as log usage = opened log usage (checkpointed_in log) (losers_of log) (locks_of log)

-- it is a transaction component, and one that may be opened on the log's bytes
abbrev pub OpenedIsKept : Type 0
OpenedIsKept =
    (log : List Record) (usage : Usage) → IsLegal log → length log ≤ 281474976710655 → IsTc (opens_as log usage)

abbrev pub OpenedIsOpened : Type 0
OpenedIsOpened =
    (bytes : List ℕ) (log : List Record) (usage : Usage) → IsLogOf bytes log
    → IsOpened bytes usage (opens_as log (called_often (1 + cut_calls bytes log) usage))

-- what is left of the component where a crash keeps the first records, so many
abbrev pub crashed : TcView → ℕ → TcView
crashed w n = opens_as (beginning w.log n) w.usage

-- it is a transaction component, and its Checkpoint records name no greater number than the whole log's
abbrev pub CrashedIsKept : Type 0
CrashedIsKept =
    (w : TcView) (n : ℕ) → IsTc w → n ≤ length w.log
    → IsTc (crashed w n) × ((crashed w n).checkpointed ≤ w.checkpointed)

-- a device that was opened was read, and called once more where a last frame was cut off
abbrev pub UsedByOpening : Usage → Usage → Type 0
UsedByOpening old new = (new ≡ called_often 1 old) ⊎ (new ≡ called_often 2 old)

-- one log opened twice: the same but for the order of losers and of locks, and for the calls of the device
pub record IsOpenedAgain (old new : TcView) : Type 0 where
  pub was : old ≡ opened old.log old.usage old.checkpointed old.losers old.locks
  pub is : new ≡ opened old.log new.usage old.checkpointed new.losers new.locks
  pub used : UsedByOpening old.usage new.usage
  pub below : new.losers.below ≡ old.losers.below

-- whatever the bytes of the log are opened as
abbrev pub OpensAgain : Type 0
OpensAgain =
    (bytes : List ℕ) (log : List Record) (usage : Usage) (w : TcView) → IsLogOf bytes log → IsOpened bytes usage w
    → IsTc w → IsOpenedAgain (opens_as log usage) w

-- the same transactions are losers
abbrev pub SameAreLost : Type 0
SameAreLost =
    (old new : TcView) → IsTc old → IsTc new → IsOpenedAgain old new → (t : ℕ)
    → is_listed (txns new.losers) t ≡ is_listed (txns old.losers) t
