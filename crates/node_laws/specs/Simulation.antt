-- The list machines that a node stands for, and runs of events.
use Rattle.std.specs.Prelude.{◌≡◌, ℕ, false, List, [], ◌∷◌, Option, Some, None, IsSome, map}
use Rattle.record_key.specs.declared.op.Op.{Op}
use Rattle.history.specs.ListMachine.{Machine, Line, Query, OfKey, OfRange, Begins, Acts, TellsAnswer, Reads, TellsRow, TellsRows, Saves, GoesBack, TellsBack, RollsBack, TellsRolledBack, Commits, TellsCommitted, Crashes, TellsLost, IsRefused, ToBegin, ToAct, ToRead, ToSave, ToGoBack, ToRollBack, ToCommit, Steps}
use Rattle.history.specs.Log.{answer_of, Requests}
use Rattle.simulation.specs.View.{View, Doing, Ready, Awaits, Looks, Rolls, StandsFor}
use Rattle.tc_locks.specs.declared.span.Span.{Span}
use Rattle.tc_locks.specs.declared.span.Span.TheVariants.{Key, Range}
use Rattle.tc_locks.specs.Locks.{spans_of}
use Rattle.tc_core.specs.declared.open_txn.OpenTxn.{OpenTxn}
use Rattle.tc_core.specs.declared.open_txn.Read.{Read}
use Rattle.tc_core.specs.declared.open_txn.Rollback.{Rollback}
use Rattle.tc_core.specs.declared.phase.Phase.TheVariants as phase
use Rattle.tc_core.specs.tc_restart.specs.Losers.{txns}
use Rattle.tc_core.specs.OpenTxns.{find}
use Rattle.tc_core.specs.Locking.{is_listed}
use Rattle.tc_core.specs.Causes.{saves_of}
use Rattle.tc_core.specs.TcView.{TcView, is_rolling}
use Rattle.node_laws.specs.Node.{NodeView, AreUp}
use Rattle.node_laws.specs.declared.event.Event.{Event}
use Rattle.node_laws.specs.declared.event.Event.TheVariants as event
use Rattle.node_laws.specs.declared.event.Out.{Out}
use Rattle.node_laws.specs.declared.event.Out.TheVariants as out

-- what a read asks for
abbrev pub query_of : Span → Query
query_of (Key k) = OfKey k
query_of (Range low high) = OfRange low high

-- what an open transaction does
abbrev pub rolling_as : Option Rollback → Doing → Doing
rolling_as (Some r) other = Rolls r.savepoint r.above
rolling_as None other = other

abbrev pub reading_as : Option Read → Doing → Doing
reading_as (Some r) other = Looks (query_of r.span)
reading_as None other = other

abbrev pub waiting_as : Option ℕ → Doing
waiting_as (Some n) = Awaits n
waiting_as None = Ready

abbrev pub doing_of : OpenTxn → Doing
doing_of o = rolling_as o.rolling (reading_as o.reading (waiting_as o.waiting))

abbrev pub doing_in : Option OpenTxn → Option Doing
doing_in None = None
doing_in (Some o) = Some (doing_of o)

-- what clients see of the transaction component
abbrev pub clients : TcView → View
clients w = record {
  log = w.log;
  stable = w.stable;
  loses = λ t. is_listed (txns w.losers) t;
  doing = λ t. doing_in (find t w.open_txns);
  saves = λ t. saves_of (find t w.open_txns);
  spans = λ t. spans_of w.locks t;
}

-- the node stands for a list machine: a relation, since the machine has a past that the log needn't keep
abbrev pub NodeStandsFor : NodeView → Machine → Type 0
NodeStandsFor w m = StandsFor (clients w.tc) m

-- who has committed is told so, in this order
abbrev pub told_committed : List ℕ → List Line
told_committed ts = map TellsCommitted ts

-- the client's call and the told lines of an event with its output, if it may have that output
abbrev pub lines_of : Event → Out → Option (List Line)
lines_of event.Begin (out.Begun t) = Some (Begins t ∷ [])
lines_of event.Begin (out.Refused r) = Some (IsRefused ToBegin r ∷ [])
lines_of (event.Act t op) (out.Logged n) = Some (Acts t op n ∷ [])
lines_of (event.Act t op) (out.Refused r) = Some (IsRefused (ToAct t op) r ∷ [])
lines_of (event.Get t k) (out.Asked n) = Some (Reads t (OfKey k) ∷ [])
lines_of (event.Get t k) (out.Refused r) = Some (IsRefused (ToRead t (OfKey k)) r ∷ [])
lines_of (event.Scan t low high) (out.Asked n) = Some (Reads t (OfRange low high) ∷ [])
lines_of (event.Scan t low high) (out.Refused r) = Some (IsRefused (ToRead t (OfRange low high)) r ∷ [])
lines_of (event.Save t) (out.Saved s) = Some (Saves t s ∷ [])
lines_of (event.Save t) (out.Refused r) = Some (IsRefused (ToSave t) r ∷ [])
lines_of (event.GoBack t s) out.RollingBack = Some (GoesBack t s ∷ [])
lines_of (event.GoBack t s) (out.Refused r) = Some (IsRefused (ToGoBack t s) r ∷ [])
lines_of (event.Rollback t) out.RollingBack = Some (RollsBack t ∷ [])
lines_of (event.Rollback t) (out.Refused r) = Some (IsRefused (ToRollBack t) r ∷ [])
lines_of (event.Commit t) (out.CommitLogged n) = Some (Commits t ∷ [])
lines_of (event.Commit t) (out.Refused r) = Some (IsRefused (ToCommit t) r ∷ [])
lines_of (event.Undo t) out.Nothing = Some []
lines_of (event.Undo t) (out.Compensated n) = Some []
lines_of (event.Undo t) (out.RolledBack u) = Some (TellsRolledBack u ∷ [])
lines_of (event.Undo t) (out.Back u s) = Some (TellsBack u s ∷ [])
lines_of (event.Undo t) (out.Refused r) = Some []
lines_of event.Force (out.Stable n committed) = Some (told_committed committed)
lines_of event.Force (out.Refused r) = Some []
lines_of event.Reconnect (out.Connects i committed) = Some (told_committed committed)
lines_of event.Reconnect (out.Refused r) = Some []
lines_of (event.Reply i) (out.Answered u a) = Some (TellsAnswer u a ∷ [])
lines_of (event.Reply i) (out.Row u v) = Some (TellsRow u v ∷ [])
lines_of (event.Reply i) (out.Rows u rows) = Some (TellsRows u rows ∷ [])
lines_of (event.Reply i) (out.Connected s) = Some []
lines_of (event.Reply i) (out.RedoEnded s) = Some []
lines_of (event.Reply i) (out.Undone n) = Some []
lines_of (event.Reply i) (out.CheckpointLogged n) = Some []
lines_of (event.Reply i) out.Nothing = Some []
lines_of (event.Reply i) (out.Refused r) = Some []
lines_of (event.Split k) (out.Split pair) = Some []
lines_of (event.Split k) (out.Refused r) = Some []
lines_of (event.Merge k) (out.Merged pair) = Some []
lines_of (event.Merge k) (out.Refused r) = Some []
lines_of event.Tend (out.Split pair) = Some []
lines_of event.Tend (out.Merged pair) = Some []
lines_of event.Tend out.Nothing = Some []
lines_of event.Tend (out.Refused r) = Some []
lines_of (event.Flush k) (out.Flushed id) = Some []
lines_of (event.Flush k) (out.Refused r) = Some []
lines_of (event.Request i) (out.Replied j) = Some []
lines_of (event.Request i) out.Noted = Some []
lines_of (event.Request i) (out.Refused r) = Some []
lines_of (event.Send t) (out.Sent i) = Some []
lines_of (event.Send t) (out.Refused r) = Some []
lines_of (event.LowWater l) (out.Sent i) = Some []
lines_of (event.LowWater l) (out.Refused r) = Some []
lines_of event.Checkpoint (out.Sent i) = Some []
lines_of event.Checkpoint (out.Refused r) = Some []
lines_of event.Tell (out.Sent i) = Some []
lines_of event.Tell (out.Refused r) = Some []
lines_of event.Recover (out.Sent i) = Some []
lines_of event.Recover out.Nothing = Some []
lines_of event.Recover (out.Compensated n) = Some []
lines_of event.Recover (out.Lost t) = Some (TellsLost t ∷ [])
lines_of event.Recover (out.Refused r) = Some []
lines_of (event.CrashTc frames bytes) out.Down = Some (Crashes ∷ [])
lines_of (event.CrashTc frames bytes) out.Nothing = Some []
lines_of event.RestartTc (out.Up count) = Some []
lines_of event.RestartTc out.Nothing = Some []
lines_of event.RestartTc (out.Refused r) = Some []
lines_of (event.CrashDc frames bytes) out.Down = Some []
lines_of (event.CrashDc frames bytes) out.Nothing = Some []
lines_of event.RestartDc (out.Up count) = Some []
lines_of event.RestartDc out.Nothing = Some []
lines_of event.RestartDc (out.Refused r) = Some []
lines_of (event.FailTc call) out.Set = Some []
lines_of (event.FailTc call) out.Nothing = Some []
lines_of (event.FailDc device call) out.Set = Some []
lines_of (event.FailDc device call) out.Nothing = Some []
lines_of _ _ = None

abbrev pub StepsIf : Machine → Option (List Line) → Machine → Type 0
StepsIf m None n = ⊥
StepsIf m (Some lines) n = Steps m lines n

-- from m, the event may have this output, and leave n
abbrev pub Happens : Machine → Event → Out → Machine → Type 0
Happens m e o n = StepsIf m (lines_of e o) n

-- events with their outputs, one after another
abbrev pub Run : Machine → List Event → List Out → Machine → Type 0
Run m [] [] n = n ≡ m
Run m (e ∷ es) (o ∷ os) n = (mid : Machine) × Happens m e o mid × Run mid es os n
Run m [] (o ∷ os) n = ⊥
Run m (e ∷ es) [] n = ⊥

-- whatever machine the node stood for, the event with its output leads from it to one that it stands for then
abbrev pub Leads : NodeView → Event → Out → NodeView → Type 0
Leads old e o new = (m : Machine) → NodeStandsFor old m → (n : Machine) × Happens m e o n × NodeStandsFor new n

abbrev pub LeadsAll : NodeView → List Event → List Out → NodeView → Type 0
LeadsAll old es os new = (m : Machine) → NodeStandsFor old m → (n : Machine) × Run m es os n × NodeStandsFor new n

-- nobody is being rolled back
abbrev pub AreUnrolled : List OpenTxn → Type 0
AreUnrolled os = (t : ℕ) → is_rolling (find t os) ≡ false

-- both components run in one session, nobody is being rolled back, and every request is answered
pub record IsSettled (w : NodeView) : Type 0 where
  pub running : w.tc.phase ≡ phase.Running
  pub up : AreUp w
  pub session : w.dc.session ≡ w.tc.session
  pub unrolled : AreUnrolled w.tc.open_txns
  pub answered : (n : ℕ) (o : Op) → Requests w.tc.log n o → IsSome (answer_of w.tc.log n)
