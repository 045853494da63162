-- What each call makes of what was seen before it. Each record that is logged takes one call of the device.
use Rattle.std.specs.Prelude.{ℕ, ◌+◌, List, [], ◌∷◌, ◌++◌, Option, Some, None, length, nat_lt, take, if◌then◌else◌}
use Rattle.record_key.specs.declared.op.Op.{Op}
use Rattle.record_key.specs.declared.op.Answer.{Answer}
use Rattle.stable.specs.Usage.{called}
use Rattle.history.specs.declared.record.Record.{Record}
use Rattle.history.specs.declared.record.Record.TheVariants as is
use Rattle.history.specs.Spans.{changed_span}
use Rattle.history.specs.Spans as law
use Rattle.tc_log.specs.Undoing.{inverse_at, next_at}
use Rattle.tc_locks.specs.declared.span.Mode.TheVariants.{Shared}
use Rattle.tc_locks.specs.declared.span.Span.{Span}
use Rattle.tc_locks.specs.Locks.{LocksView, spans_of, set_spans}
use Rattle.tc_locks.specs.Meant.{meant}
use Rattle.tc_core.specs.declared.open_txn.OpenTxn.{OpenTxn}
use Rattle.tc_restart.specs.declared.loser.Loser.{Loser}
use Rattle.tc_restart.specs.Losers.{LosersView}
use Rattle.tc_core.specs.declared.phase.Phase.{Phase}
use Rattle.tc_core.specs.declared.phase.Phase.TheVariants as phase
use Rattle.tc_core.specs.OpenTxns.{replace, without}
use Rattle.tc_core.specs.TcView.{TcView, is_none_lost}

-- these transactions let go of what they hold
abbrev pub let_go : List ℕ → LocksView → LocksView
let_go [] locks = locks
let_go (t ∷ ts) locks = let_go ts (set_spans t [] locks)

-- all is stable, by one call of the device: who is committing has committed
abbrev pub forced : TcView → TcView
forced w = record w {
  stable = length w.log;
  usage = called w.usage;
  committing = [];
  locks = let_go w.committing w.locks;
}

abbrev pub logged_session : TcView → TcView
logged_session w = record w { log = is.Session ∷ w.log; usage = called w.usage }

-- a new session, stable at once: nothing is announced in it, and no checkpoint is asked for
abbrev pub reconnected : TcView → TcView
reconnected w = record (forced (logged_session w)) {
  session = length w.log + 1;
  phase = phase.Connecting;
  announced = 0;
  checkpointing = None;
}

-- the greater of two numbers
abbrev pub greater : ℕ → ℕ → ℕ
greater c l = if nat_lt c l then l else c

-- the number is announced
abbrev pub announced : TcView → ℕ → TcView
announced w l = record w { announced = greater w.announced l }

-- a checkpoint is asked for, with the greatest number that was announced
abbrev pub asked_checkpoint : TcView → TcView
asked_checkpoint w = record w { checkpointing = Some w.announced }

-- the checkpoint that was asked for is logged
abbrev pub checkpointed : TcView → ℕ → TcView
checkpointed w l = record w {
  log = is.Checkpoint l ∷ w.log;
  usage = called w.usage;
  checkpointing = None;
  checkpointed = greater w.checkpointed l;
}

-- one that has just begun
abbrev pub begun_txn : ℕ → OpenTxn
begun_txn t = record { txn = t; last = 0; undo = 0; waiting = None; reading = None; rolling = None; saves = [] }

abbrev pub begun : TcView → TcView
begun w = record w {
  log = is.Begin ∷ w.log;
  usage = called w.usage;
  open_txns = begun_txn (length w.log + 1) ∷ w.open_txns;
}

-- one whose operation of this number was logged
abbrev pub acted_txn : OpenTxn → ℕ → OpenTxn
acted_txn o n = record o { last = n; undo = n; waiting = Some n }

abbrev pub acted : TcView → OpenTxn → Op → TcView
acted w o op = record w {
  log = is.Op o.txn o.last op ∷ w.log;
  usage = called w.usage;
  open_txns = replace (acted_txn o (length w.log + 1)) w.open_txns;
  locks = set_spans o.txn (changed_span op ∷ spans_of w.locks o.txn) w.locks;
}

-- one that waits for a read of this number
abbrev pub reading_txn : OpenTxn → ℕ → Span → OpenTxn
reading_txn o n s = record o { reading = Some (record { number = n; span = s }) }

abbrev pub shared : Span → law.Span
shared s = meant Shared s

abbrev pub asked_read : TcView → OpenTxn → Span → TcView
asked_read w o s = record w {
  reads = w.reads + 1;
  open_txns = replace (reading_txn o (w.reads + 1) s) w.open_txns;
  locks = set_spans o.txn (shared s ∷ spans_of w.locks o.txn) w.locks;
}

-- one that was told what it read
abbrev pub told_txn : OpenTxn → OpenTxn
told_txn o = record o { reading = None }

abbrev pub was_told : TcView → OpenTxn → TcView
was_told w o = record w { open_txns = replace (told_txn o) w.open_txns }

-- one that has a savepoint more: the log's end there
abbrev pub saved_txn : OpenTxn → ℕ → OpenTxn
saved_txn o end = record o { saves = o.saves ++ end ∷ [] }

abbrev pub saved : TcView → OpenTxn → TcView
saved w o = record w { open_txns = replace (saved_txn o (length w.log)) w.open_txns }

-- one that is rolled back, wholly or to a savepoint; later savepoints are dropped
abbrev pub rolling_txn : OpenTxn → OpenTxn
rolling_txn o = record o { rolling = Some (record { savepoint = None; above = 0 }) }

abbrev pub rolled : TcView → OpenTxn → TcView
rolled w o = record w { open_txns = replace (rolling_txn o) w.open_txns }

abbrev pub going_back_txn : OpenTxn → ℕ → ℕ → OpenTxn
going_back_txn o s end =
    record o { rolling = Some (record { savepoint = Some s; above = end }); saves = take s o.saves }

abbrev pub going_back : TcView → OpenTxn → ℕ → ℕ → TcView
going_back w o s end = record w { open_txns = replace (going_back_txn o s end) w.open_txns }

-- its Commit is logged: it isn't open any more, and holds what it held
abbrev pub committed : TcView → ℕ → TcView
committed w t = record w {
  log = is.Commit t ∷ w.log;
  usage = called w.usage;
  open_txns = without t w.open_txns;
  committing = w.committing ++ t ∷ [];
}

-- a compensation waits for its answer where it has an inverse
abbrev pub waits_for : ℕ → Option Op → Option ℕ
waits_for n None = None
waits_for n (Some inverse) = Some n

-- one whose latest operation that is left has this compensation
abbrev pub compensated_txn : OpenTxn → ℕ → ℕ → Option Op → OpenTxn
compensated_txn o n next inverse = record o { last = n; undo = next; waiting = waits_for n inverse }

abbrev pub compensated : TcView → OpenTxn → TcView
compensated w o = record w {
  log = is.Comp o.txn o.undo (next_at w.log o.undo) (inverse_at w.log o.undo) ∷ w.log;
  usage = called w.usage;
  open_txns = replace (compensated_txn o (length w.log + 1) (next_at w.log o.undo) (inverse_at w.log o.undo))
      w.open_txns;
}

-- wholly rolled back: its End is logged, and it lets go of what it held
abbrev pub wholly_undone : TcView → ℕ → TcView
wholly_undone w t = record w {
  log = is.End t ∷ w.log;
  usage = called w.usage;
  open_txns = without t w.open_txns;
  locks = set_spans t [] w.locks;
}

-- back at its savepoint: it goes on, and holds what it held
abbrev pub back_txn : OpenTxn → OpenTxn
back_txn o = record o { rolling = None }

abbrev pub is_back : TcView → OpenTxn → TcView
is_back w o = record w { open_txns = replace (back_txn o) w.open_txns }

abbrev pub answered_txn : OpenTxn → OpenTxn
answered_txn o = record o { waiting = None }

abbrev pub answered : TcView → OpenTxn → ℕ → Answer → TcView
answered w o n a = record w {
  log = is.Answer n a ∷ w.log;
  usage = called w.usage;
  open_txns = replace (answered_txn o) w.open_txns;
}

-- an answer that no client waits for
abbrev pub answered_lost : TcView → ℕ → Answer → TcView
answered_lost w n a = record w { log = is.Answer n a ∷ w.log; usage = called w.usage }

-- the compensation of a loser's latest operation that none names
abbrev pub lost_comp : List Record → Loser → Record
lost_comp log x = is.Comp x.txn x.left (next_at log x.left) (inverse_at log x.left)

-- it is logged, and awaits its answer where it has an inverse
abbrev pub lost_compensated : TcView → Loser → LosersView → TcView
lost_compensated w x losers = record w {
  log = lost_comp w.log x ∷ w.log;
  usage = called w.usage;
  phase = phase.Undoing (waits_for (length w.log + 1) (inverse_at w.log x.left));
  losers = losers;
}

-- a loser's End is logged, and it lets go of what it held; after the last one the component runs
abbrev pub undoing_or_running : LosersView → Phase
undoing_or_running losers = if is_none_lost losers then phase.Running else phase.Undoing None

abbrev pub lost_ended : TcView → ℕ → LosersView → TcView
lost_ended w t losers = record w {
  log = is.End t ∷ w.log;
  usage = called w.usage;
  phase = undoing_or_running losers;
  losers = losers;
  locks = set_spans t [] w.locks;
}
