-- What holds of the transaction component at every moment.
use Rattle.std.specs.Prelude.{◌≡◌, ◌≢◌, ℕ, ◌+◌, ◌<◌, ◌≤◌, true, false, List, [], ◌∷◌, ◌++◌, Option, Some, None, IsSome, length, nat_lt, if◌then◌else◌}
use Rattle.std.specs.List.{AllByRecursion}
use Rattle.std.specs.Bool.{MatchBool}
use Rattle.record_key.specs.declared.op.Op.{Op}
use Rattle.history.specs.declared.record.Record.{Record}
use Rattle.history.specs.declared.record.Record.TheVariants as is
use Rattle.history.specs.Log.{record_at, answer_of, IsOpen, Requests, IsStepOf}
use Rattle.history.specs.Legal.{IsLatestOrNone, IsIdle, IsLegal, FitsCheckpoint}
use Rattle.history.specs.Chains.{undo_from}
use Rattle.record_key.specs.Order.{HasKeys}
use Rattle.tc_locks.specs.Meant.{range_of}
use Rattle.history.specs.Spans.{Span}
use Rattle.tc_locks.specs.Locks.{LocksView, spans_of}
use Rattle.tc_core.specs.declared.open_txn.OpenTxn.{OpenTxn}
use Rattle.tc_core.specs.declared.open_txn.Read.{Read}
use Rattle.tc_core.specs.declared.open_txn.Rollback.{Rollback}
use Rattle.tc_core.specs.declared.phase.Phase.{Phase}
use Rattle.tc_core.specs.declared.phase.Phase.TheVariants as phase
use Rattle.framed_log.specs.Beginning.{beginning}
use Rattle.tc_log.specs.Checkpointed.{IsCheckpointed}
use Rattle.tc_restart.specs.Losers.{LosersView, txns, IsLoser, AreLosers}
use Rattle.tc_core.specs.OpenTxns.{find, AreFalling}
use Rattle.tc_core.specs.Locking.{AreHeld, HoldOperations}
use Rattle.tc_core.specs.Changes.{shared}
use Rattle.tc_core.specs.TcView.{TcView, is_none_lost, rolls_back}

-- the record that is waited for: an operation, or in a rollback a compensation with an inverse
abbrev pub IsRequest : List Record → OpenTxn → ℕ → Type 0
IsRequest log o n =
    MatchBool (rolls_back o)
    ((u : ℕ) × (x : ℕ) × (i : Op) × (record_at log n ≡ Some (is.Comp o.txn u x (Some i))))
    ((p : ℕ) × (op : Op) × (record_at log n ≡ Some (is.Op o.txn p op)))

-- it is the only request of the transaction without an answer
pub record IsWaiting (log : List Record) (o : OpenTxn) (n : ℕ) : Type 0 where
  pub request : IsRequest log o n
  pub unanswered : answer_of log n ≡ None
  pub only : (m : ℕ) (op : Op) → IsStepOf log o.txn m → Requests log m op → m ≢ n → IsSome (answer_of log m)

abbrev pub Waits : List Record → OpenTxn → Option ℕ → Type 0
Waits log o None = IsIdle log o.txn
Waits log o (Some n) = IsWaiting log o n

-- a whole rollback undoes all, one to a savepoint what lies above the log's end there
pub record IsRollback (log : List Record) (r : Rollback) : Type 0 where
  pub whole : r.savepoint ≡ None → r.above ≡ 0
  pub within : r.above ≤ length log

-- what is kept of an open transaction is what the log says of it
pub record IsOpenTxn (log : List Record) (o : OpenTxn) : Type 0 where
  pub is : IsOpen log o.txn
  pub last : IsLatestOrNone (IsStepOf log o.txn) o.last
  pub undo : o.undo ≡ undo_from (record_at log o.last) o.last
  pub waits : Waits log o o.waiting
  pub saves : AllByRecursion (λ end. end ≤ length log) o.saves
  pub rolling : (r : Rollback) → o.rolling ≡ Some r → IsRollback log r

-- just the open transactions of the log are kept that began at this number or later, the newest first, and no more
-- than 64
pub record AreOpen (log : List Record) (below : ℕ) (os : List OpenTxn) : Type 0 where
  pub each : (t : ℕ) (o : OpenTxn) → find t os ≡ Some o → IsOpenTxn log o
  pub late : (t : ℕ) (o : OpenTxn) → find t os ≡ Some o → below ≤ t
  pub all : (t : ℕ) → IsOpen log t → below ≤ t → IsSome (find t os)
  pub order : AreFalling os
  pub few : length os ≤ 64

-- a read that is waited for is the newest thing that its transaction did, and its span is held
pub record IsReading (reads : ℕ) (locks : LocksView) (o : OpenTxn) (r : Read) : Type 0 where
  pub idle : o.waiting ≡ None
  pub flat : o.rolling ≡ None
  pub asked : r.number ≤ reads
  pub range : HasKeys (range_of r.span)
  pub before : List Span
  pub held : spans_of locks o.txn ≡ shared r.span ∷ before

-- each reader waits for its own read, whose span it holds
pub record AreReading (reads : ℕ) (os : List OpenTxn) (locks : LocksView) : Type 0 where
  pub each : (t : ℕ) (o : OpenTxn) (r : Read) → find t os ≡ Some o → o.reading ≡ Some r → IsReading reads locks o r
  pub apart : (t u : ℕ) (o p : OpenTxn) (r q : Read) → find t os ≡ Some o → find u os ≡ Some p → o.reading ≡ Some r
      → p.reading ≡ Some q
      → r.number ≡ q.number → t ≡ u

-- a session runs from its start on, and redo begins above what was checkpointed and never passes the session's record
abbrev pub IsPhase : ℕ → ℕ → Phase → Type 0
IsPhase c s phase.Unconnected = s ≡ 0
IsPhase c s phase.Connecting = c < s
IsPhase c s (phase.Redoing next ending) = (c < next) × (next ≤ s) × (ending ≡ true → next ≡ s)
IsPhase c s _ = 0 < s

-- losers are left while they are undone, and none once the component runs
abbrev pub IsPhaseOf : LosersView → Phase → Type 0
IsPhaseOf l (phase.Undoing waiting) = is_none_lost l ≡ false
IsPhaseOf l phase.Running = is_none_lost l ≡ true
IsPhaseOf l _ = Unit {0}

-- a loser's request of this number may lack its answer: redo has still to send it, or undo awaits it
abbrev pub MayLack : ℕ → Phase → ℕ → Type 0
MayLack s phase.Unconnected n = Unit {0}
MayLack s phase.Connecting n = n < s
MayLack s (phase.Redoing next ending) n = (next ≤ n) × (n < s)
MayLack s (phase.Undoing waiting) n = waiting ≡ Some n
MayLack s phase.Running n = ⊥

-- a loser's request that has no answer
pub record IsOwedAnswer (log : List Record) (below n : ℕ) : Type 0 where
  pub txn : ℕ
  pub loser : IsLoser log below txn
  pub op : Op
  pub step : IsStepOf log txn n
  pub requests : Requests log n op
  pub unanswered : answer_of log n ≡ None

-- losers are the log's, each but those that have ended, and each request of theirs that has no answer is awaited
pub record AreLost (log : List Record) (s : ℕ) (p : Phase) (l : LosersView) : Type 0 where
  pub losers : AreLosers log l
  pub phase_of : IsPhaseOf l p
  pub lacking : (n : ℕ) → IsOwedAnswer log l.below n → MayLack s p n
  pub due : (n : ℕ) → p ≡ phase.Undoing (Some n) → IsOwedAnswer log l.below n

-- how far the data component may forget: what was announced, what a checkpoint was asked for, and the greatest that
-- a Checkpoint record names
pub record AreLow (log : List Record) (stable a : ℕ) (asks : Option ℕ) (c : ℕ) : Type 0 where
  pub announced : FitsCheckpoint (beginning log stable) a
  pub asked : (l : ℕ) → asks ≡ Some l → FitsCheckpoint (beginning log stable) l
  pub checkpointed : IsLatestOrNone (IsCheckpointed log) c
  pub checked : FitsCheckpoint (beginning log stable) c

-- whose Commit stands above the stable records, the oldest first
abbrev pub commits_in : List Record → ℕ → List ℕ
commits_in [] stable = []
commits_in (is.Commit t ∷ log) stable = if nat_lt stable (length log + 1) then commits_in log stable ++ t ∷ [] else []
commits_in (r ∷ log) stable = commits_in log stable

-- numbers of records and reads are below 2 to the power of 48, so that each can be spelled
pub record AreFew (w : TcView) : Type 0 where
  pub records : length w.log ≤ 281474976710655
  pub reads : w.reads ≤ 281474976710655

-- besides open transactions those that are committing and the losers hold their keys
abbrev pub closing : TcView → List ℕ
closing w = w.committing ++ txns w.losers

-- the log is legal, a beginning of it with the session's record is stable, a checkpoint is asked for only while clients
-- are served; the open transactions are its, those committing and the losers too, and the lock table is theirs
pub record IsTc (w : TcView) : Type 0 where
  pub legal : IsLegal w.log
  pub within : w.stable ≤ length w.log
  pub few : AreFew w
  pub session : w.session ≤ w.stable
  pub asking : (l : ℕ) → w.checkpointing ≡ Some l → w.phase ≡ phase.Running
  pub phase : IsPhase w.checkpointed w.session w.phase
  pub low : AreLow w.log w.stable w.announced w.checkpointing w.checkpointed
  pub open_txns : AreOpen w.log w.losers.below w.open_txns
  pub committing : w.committing ≡ commits_in w.log w.stable
  pub lost : AreLost w.log w.session w.phase w.losers
  pub locks : AreHeld w.log w.open_txns (closing w) w.locks
  pub early : HoldOperations w.losers.below w.locks
  pub reading : AreReading w.reads w.open_txns w.locks
