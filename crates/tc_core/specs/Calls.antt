-- What each call gives, and what it leaves: one definition for each, the contract of the call.
use Rattle.std.specs.Prelude.{◌≡◌, ◌⊎◌, ℕ, ◌+◌, ◌-◌, ◌<◌, ◌≤◌, false, true, IsTrue, List, Option, Some, None, Result, Ok, Err, length, slice_get}
use Rattle.record_key.specs.declared.op.Op.{Op}
use Rattle.record_key.specs.declared.refusal.Refusal.{Refusal}
use Rattle.record_key.specs.declared.refusal.Refusal.TheVariants.{Device}
use Rattle.stable.specs.Usage.{is_due}
use Rattle.tc_locks.specs.Meant.{range_of}
use Rattle.history.specs.Log.{Requests}
use Rattle.history.specs.Spans.{changed_span}
use Rattle.codec.specs.declared.request.Request.{Request}
use Rattle.codec.specs.declared.request.Request.TheVariants as asks
use Rattle.tc_locks.specs.declared.span.Span.{Span}
use Rattle.tc_locks.specs.declared.span.Span.TheVariants.{Key, Range}
use Rattle.tc_locks.specs.Locks.{IsGrantable}
use Rattle.tc_core.specs.declared.open_txn.OpenTxn.{OpenTxn}
use Rattle.tc_core.specs.declared.open_txn.Read.{Read}
use Rattle.tc_core.specs.declared.open_txn.Rollback.{Rollback}
use Rattle.tc_core.specs.declared.told.Connecting.{Connecting}
use Rattle.tc_core.specs.declared.told.Forced.{Forced}
use Rattle.tc_core.specs.declared.told.UndoStep.{UndoStep}
use Rattle.tc_core.specs.declared.told.UndoStep.TheVariants as step
use Rattle.tc_log.specs.LogView.{spent_refusal, last_not_session}
use Rattle.tc_log.specs.Spelled.{IsAskedBy}
use Rattle.tc_core.specs.OpenTxns.{find}
use Rattle.tc_core.specs.TcView.{TcView, is_serving, failed}
use Rattle.tc_core.specs.Refusing.{Refuses}
use Rattle.tc_core.specs.Causes.{running_refusal, idle_refusal, begin_refusal, commit_refusal, save_refusal, back_refusal, read_refusal, reads_spent, undo_refusal, undo_logs, resend_refusal, RefusesTaking}
use Rattle.tc_core.specs.Changes.{forced, logged_session, reconnected, begun, acted, asked_read, shared, saved, rolled, going_back, committed, compensated, wholly_undone, is_back}

-- the open transaction of this number
pub record IsAt (w : TcView) (t : ℕ) (o : OpenTxn) : Type 0 where
  pub is : find o.txn w.open_txns ≡ Some o
  pub number : o.txn ≡ t

-- a session is started, or it isn't: the device may have failed when its record was logged already
abbrev pub ReconnectGives : TcView → Result Connecting Refusal → TcView → Type 0
ReconnectGives old (Ok c) new =
    (spent_refusal old.log ≡ None) × (c.request ≡ asks.Connect (length old.log + 1) (last_not_session old.log))
    × (c.committed ≡ old.committing)
    × (new ≡ reconnected old)
ReconnectGives old (Err r) new =
    Refuses (spent_refusal old.log) true true old r new
    ⊎ ((spent_refusal old.log ≡ None) × (r ≡ Device) × (new ≡ failed (logged_session old))
    × IsTrue (is_due (logged_session old).usage))

abbrev pub BeginGives : TcView → Result ℕ Refusal → TcView → Type 0
BeginGives old (Ok t) new = (begin_refusal old ≡ None) × (t ≡ length old.log + 1) × (new ≡ begun old)
BeginGives old (Err r) new = Refuses (begin_refusal old) true true old r new

-- an operation is logged
pub record Acts (old : TcView) (t : ℕ) (op : Op) (number : ℕ) (new : TcView) : Type 0 where
  pub open_txn : OpenTxn
  pub at : IsAt old t open_txn
  pub allowed : idle_refusal old t ≡ None
  pub free : IsGrantable old.locks t (changed_span op)
  pub unspent : spent_refusal old.log ≡ None
  pub number_is : number ≡ length old.log + 1
  pub acted : new ≡ acted old open_txn op

abbrev pub ActGives : TcView → ℕ → Op → Result ℕ Refusal → TcView → Type 0
ActGives old t op (Ok n) new = Acts old t op n new
ActGives old t op (Err r) new =
    RefusesTaking (idle_refusal old t) (spent_refusal old.log) true old t (changed_span op) r new

-- a read is asked
pub record AsksRead (old : TcView) (t : ℕ) (span : Span) (number : ℕ) (new : TcView) : Type 0 where
  pub open_txn : OpenTxn
  pub at : IsAt old t open_txn
  pub allowed : read_refusal old t (range_of span) ≡ None
  pub free : IsGrantable old.locks t (shared span)
  pub unspent : reads_spent old.reads ≡ None
  pub number_is : number ≡ old.reads + 1
  pub asked : new ≡ asked_read old open_txn span

abbrev pub ReadGives : TcView → ℕ → Span → Result ℕ Refusal → TcView → Type 0
ReadGives old t span (Ok n) new = AsksRead old t span n new
ReadGives old t span (Err r) new =
    RefusesTaking (read_refusal old t (range_of span)) (reads_spent old.reads) false old t (shared span) r new

-- a savepoint is set: its number is the count of present ones plus 1
pub record Saves (old : TcView) (t s : ℕ) (new : TcView) : Type 0 where
  pub open_txn : OpenTxn
  pub at : IsAt old t open_txn
  pub allowed : save_refusal old t ≡ None
  pub number_is : s ≡ length open_txn.saves + 1
  pub saved : new ≡ saved old open_txn

abbrev pub SaveGives : TcView → ℕ → Result ℕ Refusal → TcView → Type 0
SaveGives old t (Ok s) new = Saves old t s new
SaveGives old t (Err r) new = Refuses (save_refusal old t) true false old r new

-- a transaction that may go back begins to, to what the savepoint remembers
pub record GoesBack (old : TcView) (t s : ℕ) (new : TcView) : Type 0 where
  pub open_txn : OpenTxn
  pub end : ℕ
  pub at : IsAt old t open_txn
  pub allowed : back_refusal old t s ≡ None
  pub savepoint : slice_get open_txn.saves (s - 1) ≡ Some end
  pub going : new ≡ going_back old open_txn s end

abbrev pub BackGives : TcView → ℕ → ℕ → Result (Unit {0}) Refusal → TcView → Type 0
BackGives old t s (Ok u) new = GoesBack old t s new
BackGives old t s (Err r) new = Refuses (back_refusal old t s) false false old r new

-- a transaction that is idle begins to be rolled back wholly
pub record RollsBack (old : TcView) (t : ℕ) (new : TcView) : Type 0 where
  pub open_txn : OpenTxn
  pub at : IsAt old t open_txn
  pub allowed : idle_refusal old t ≡ None
  pub rolled : new ≡ rolled old open_txn

abbrev pub RollbackGives : TcView → ℕ → Result (Unit {0}) Refusal → TcView → Type 0
RollbackGives old t (Ok u) new = RollsBack old t new
RollbackGives old t (Err r) new = Refuses (idle_refusal old t) false false old r new

abbrev pub CommitGives : TcView → ℕ → Result ℕ Refusal → TcView → Type 0
CommitGives old t (Ok n) new = (commit_refusal old t ≡ None) × (n ≡ length old.log + 1) × (new ≡ committed old t)
CommitGives old t (Err r) new = Refuses (commit_refusal old t) true true old r new

-- one step of a rollback, for each that may be told
abbrev pub Undoes : TcView → OpenTxn → Option Rollback → UndoStep → TcView → Type 0
Undoes w o None step.Idle new = new ≡ w
Undoes w o (Some r) (step.Compensated n) new = (r.above < o.undo) × (n ≡ length w.log + 1) × (new ≡ compensated w o)
Undoes w o (Some r) (step.RolledBack t) new =
    (o.undo ≤ r.above) × (r.savepoint ≡ None) × (t ≡ o.txn) × (new ≡ wholly_undone w o.txn)
Undoes w o (Some r) (step.Back t s) new =
    (o.undo ≤ r.above) × (r.savepoint ≡ Some s) × (t ≡ o.txn) × (new ≡ is_back w o)
Undoes w o _ _ new = ⊥

-- a step of a rollback, of a transaction that waits for nothing
pub record UndoesStep (old : TcView) (t : ℕ) (step : UndoStep) (new : TcView) : Type 0 where
  pub open_txn : OpenTxn
  pub at : IsAt old t open_txn
  pub allowed : undo_refusal old t ≡ None
  pub undoes : Undoes old open_txn open_txn.rolling step new

abbrev pub UndoGives : TcView → ℕ → Result UndoStep Refusal → TcView → Type 0
UndoGives old t (Ok step) new = UndoesStep old t step new
UndoGives old t (Err r) new =
    Refuses (undo_refusal old t) (undo_logs (find t old.open_txns)) (undo_logs (find t old.open_txns)) old r new

-- all is stable, and those that were committing are told, in the order of their Commit records
abbrev pub ForceGives : TcView → Result Forced Refusal → TcView → Type 0
ForceGives old (Ok f) new = (f.end ≡ length old.log) × (f.committed ≡ old.committing) × (new ≡ forced old)
ForceGives old (Err r) new = (r ≡ Device) × (new ≡ failed old) × IsTrue (is_due old.usage)

-- the request to perform the operation of this number
pub record AsksToPerform (w : TcView) (number : ℕ) (request : Request) : Type 0 where
  pub op : Op
  pub requests : Requests w.log number op
  pub is : request ≡ asks.Perform w.session number w.stable op

-- the request that the transaction waits for: of its record, with how much of the log is stable
pub record IsOpRequest (w : TcView) (t : ℕ) (request : Request) : Type 0 where
  pub open_txn : OpenTxn
  pub number : ℕ
  pub op : Op
  pub at : IsAt w t open_txn
  pub serving : is_serving w.phase ≡ true
  pub waiting : open_txn.waiting ≡ Some number
  pub requests : Requests w.log number op
  pub is : request ≡ asks.Perform w.session number w.stable op

-- or of its read
abbrev pub read_request : ℕ → ℕ → Span → Request
read_request s n (Key k) = asks.Get s n k
read_request s n (Range low high) = asks.Scan s n low high

-- what a reader sends: the read that it waits for, in the session
pub record IsReadRequest (w : TcView) (t : ℕ) (request : Request) : Type 0 where
  pub open_txn : OpenTxn
  pub read : Read
  pub at : IsAt w t open_txn
  pub serving : is_serving w.phase ≡ true
  pub reading : open_txn.reading ≡ Some read
  pub is : request ≡ read_request w.session read.number read.span

abbrev pub IsRequestOf : TcView → ℕ → Request → Type 0
IsRequestOf w t request = IsOpRequest w t request ⊎ IsReadRequest w t request

abbrev pub ResendGives : TcView → ℕ → Result Request Refusal → Type 0
ResendGives w t (Ok request) = (resend_refusal w t ≡ None) × IsRequestOf w t request
ResendGives w t (Err r) = resend_refusal w t ≡ Some r

-- what it sends is the operation of this number, which these bytes spell
pub record IsAwaitedOp (w : TcView) (t n : ℕ) (bytes : List ℕ) : Type 0 where
  pub asked : IsAskedBy w.log n bytes
  pub gives : ResendGives w t (Ok (asks.Perform w.session n w.stable asked.op))

-- how much of the log is stable
abbrev pub TellStableGives : TcView → Result Request Refusal → Type 0
TellStableGives w (Ok request) = (running_refusal w ≡ None) × (request ≡ asks.StableEnd w.session w.stable)
TellStableGives w (Err r) = running_refusal w ≡ Some r
