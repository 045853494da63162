-- What is seen of the transaction component.
use Rattle.std.specs.Prelude.{ℕ, ◌||◌, Bool, true, false, List, [], ◌∷◌, Option, Some, None, is_some}
use Rattle.stable.specs.Usage.{Usage, failed as failed_use}
use Rattle.history.specs.declared.record.Record.{Record}
use Rattle.tc_locks.specs.Locks.{LocksView}
use Rattle.tc_restart.specs.Losers.{LosersView, nobody_lost, txns}
use Rattle.tc_core.specs.declared.open_txn.OpenTxn.{OpenTxn}
use Rattle.tc_core.specs.declared.phase.Phase.{Phase}
use Rattle.tc_core.specs.declared.phase.Phase.TheVariants.{Unconnected, Undoing, Running}

-- its log, the newest record first, how many are stable, how the log's device was used; its session, 0 if
-- none, and how far that has come; how many reads were asked; the greatest number announced in this session, 0 before
-- any, what its latest unanswered checkpoint asked for, and the greatest number that a Checkpoint record names, 0 if
-- none; the open transactions, the newest first; those whose Commit record isn't stable, in the order of these records;
-- the losers that were found when the log was opened, but for those that have ended; and what each transaction holds
pub record TcView : Type 0 where
  pub log : List Record
  pub stable : ℕ
  pub usage : Usage
  pub session : ℕ
  pub phase : Phase
  pub reads : ℕ
  pub announced : ℕ
  pub checkpointing : Option ℕ
  pub checkpointed : ℕ
  pub open_txns : List OpenTxn
  pub committing : List ℕ
  pub losers : LosersView
  pub locks : LocksView

abbrev pub is_unconnected : Phase → Bool
is_unconnected Unconnected = true
is_unconnected _ = false

abbrev pub is_running : Phase → Bool
is_running Running = true
is_running _ = false

-- clients are served
abbrev pub is_serving : Phase → Bool
is_serving (Undoing waiting) = true
is_serving Running = true
is_serving _ = false

abbrev pub is_nil : List ℕ → Bool
is_nil [] = true
is_nil (t ∷ ts) = false

-- each loser has ended
abbrev pub is_none_lost : LosersView → Bool
is_none_lost l = is_nil (txns l)

abbrev pub rolls_back : OpenTxn → Bool
rolls_back o = is_some o.rolling

abbrev pub is_rolling : Option OpenTxn → Bool
is_rolling None = false
is_rolling (Some o) = rolls_back o

-- it waits for an answer, or for what it reads
abbrev pub waits : OpenTxn → Bool
waits o = is_some o.waiting || is_some o.reading

abbrev pub is_waiting : Option OpenTxn → Bool
is_waiting None = false
is_waiting (Some o) = waits o

-- the device was used so since, and nothing else happened
abbrev pub used_so : TcView → Usage → TcView
used_so w usage = record w { usage = usage }

-- a call of it failed
abbrev pub failed : TcView → TcView
failed w = used_so w (failed_use w.usage)

-- nothing is logged, and nobody is connected; the device was used so
abbrev pub fresh_tc : Usage → TcView
fresh_tc usage = record {
  log = [];
  stable = 0;
  usage = usage;
  session = 0;
  phase = Unconnected;
  reads = 0;
  announced = 0;
  checkpointing = None;
  checkpointed = 0;
  open_txns = [];
  committing = [];
  losers = nobody_lost;
  locks = [];
}
