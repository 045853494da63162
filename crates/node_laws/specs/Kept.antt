-- What holds of a node at every moment. These are the invariants on which the headline rests; docs/PROOF.md
-- argues why each event keeps them.
use Rattle.std.specs.Prelude.{◌≡◌, ◌⊎◌, ℕ, ◌<◌, ◌≤◌, true, false, List, Option, Some, None, IsSome}
use Rattle.std.specs.List.{AllByRecursion}
use Rattle.std.specs.FinMap as map
use Rattle.record_key.specs.declared.op.Op.{Op}
use Rattle.record_key.specs.Table.{Table, Bytes, AreAdds, key_of}
use Rattle.record_key.specs.declared.op.Answer.{Answer}
use Rattle.history.specs.declared.record.Record.{Record}
use Rattle.history.specs.Log.{answer_of, Requests}
use Rattle.history.specs.Values.{value_on, IsRight, HasRightAnswers}
use Rattle.record_key.specs.Order as keys
use Rattle.record_key.specs.Order.{has_key, rows_in}
use Rattle.tc_locks.specs.declared.span.Span.{Span}
use Rattle.tc_locks.specs.declared.span.Span.TheVariants.{Key, Range}
use Rattle.tc_locks.specs.Meant.{range_of}
use Rattle.codec.specs.declared.request.Request.{Request}
use Rattle.codec.specs.declared.request.Request.TheVariants as asks
use Rattle.codec.specs.declared.reply.Reply.{Reply}
use Rattle.codec.specs.declared.reply.Reply.TheVariants as says
use Rattle.dc_leaf.specs.Leaf.{LeafView}
use Rattle.dc_leaf.specs.Honest.{IsHonestLeaf}
use Rattle.dc_recovery.specs.Recovery.{stored_session}
use Rattle.dc_recovery.specs.Ready.{IsHonestTo, AllHave}
use Rattle.dc_core.specs.dc_store.specs.SystemView.{SystemView}
use Rattle.dc_core.specs.dc_store.specs.Devices.{pages_of}
use Rattle.dc_core.specs.dc_store.specs.Kept.{IsRecoverable}
use Rattle.dc_core.specs.dc_store.specs.Checked.{IsChecked}
use Rattle.dc_core.specs.declared.performance.Performance.{Performance}
use Rattle.dc_core.specs.DcView.{DcView, captures_at, fresh_dc}
use Rattle.dc_core.specs.Serves.{runs}
use Rattle.dc_core.specs.Tends.{may_merge}
use Rattle.dc_core.specs.Kept.{IsDc}
use Rattle.tc_core.specs.declared.open_txn.OpenTxn.{OpenTxn}
use Rattle.tc_core.specs.declared.phase.Phase.{Phase}
use Rattle.tc_core.specs.declared.phase.Phase.TheVariants as phase
use Rattle.tc_core.specs.OpenTxns.{find}
use Rattle.tc_core.specs.TcView.{TcView}
use Rattle.tc_core.specs.Opening.{IsOpened}
use Rattle.stable.specs.Usage.{Usage}
use Rattle.history.specs.Legal.{FitsCheckpoint}
use Rattle.framed_log.specs.Beginning.{beginning}
use Rattle.tc_log.specs.LogView.{last_not_session}
use Rattle.tc_core.specs.Kept.{IsTc}
use Rattle.node_laws.specs.Node.{NodeView}
use Rattle.node_laws.specs.Source.{Source, IsWaiting, IsSource, own}

-- every request up to a number has its answer among the log's first records, so many
abbrev pub IsAnsweredBy : List Record → ℕ → ℕ → Type 0
IsAnsweredBy log end l = FitsCheckpoint (beginning log end) l

-- every request up to a stable number has a stable answer
abbrev pub IsAnsweredTo : TcView → ℕ → Type 0
IsAnsweredTo w l = IsAnsweredBy w.log w.stable l

-- a session of this number or a later one was begun: its record is stable, and the one that runs is no earlier
pub record IsBegun (stable session s : ℕ) : Type 0 where
  pub recorded : s ≤ stable
  pub most : 0 < session → s ≤ session

-- the fact holds of what whoever waits for the read of this number reads
abbrev pub IsTrueOfReader : TcView → ℕ → (Span → Type 0) → Type 0
IsTrueOfReader w n P = (t : ℕ) (o : OpenTxn) (q : Span) → find t w.open_txns ≡ Some o → o.reading
    ≡ Some (record { number = n; span = q }) → P q

-- the read was asked in a session that was begun; as long as that is the component's, the fact is true of its reader
pub record IsReadTrue (w : TcView) (s n : ℕ) (P : Span → Type 0) : Type 0 where
  pub some : 0 < s
  pub begun : s ≤ w.stable
  pub asked : s ≡ w.session → n ≤ w.reads
  pub holds : s ≡ w.session → IsTrueOfReader w n P

-- a request that is answered was performed
abbrev pub AnsweredAreCaptured : List Record → DcView → Type 0
AnsweredAreCaptured log dc =
    (n : ℕ) (o : Op) → Requests log n o → IsSome (answer_of log n) → captures_at dc (key_of o) n ≡ true

-- so was each request before this operation's number: on its key, unless both are Adds, and on any
abbrev pub EarlierAreCaptured : List Record → DcView → ℕ → Op → Type 0
EarlierAreCaptured log dc n o =
    (m : ℕ) (q : Op) → Requests log m q → m < n → key_of q ≡ key_of o
    → (captures_at dc (key_of o) m ≡ true) ⊎ AreAdds o q

abbrev pub AllAreCaptured : List Record → DcView → ℕ → Type 0
AllAreCaptured log dc next = (n : ℕ) (o : Op) → Requests log n o → n < next → captures_at dc (key_of o) n ≡ true

-- the data component has taken the session, and this holds as long as it runs it
pub record InSession (dc : DcView) (s : ℕ) (Holds : Type 0) : Type 0 where
  pub begun : s ≤ dc.stored
  pub holds : runs dc s ≡ true → Holds

-- while the transaction component waits, an operation and its answer are of an earlier session than its own
pub record IsOlder (w : TcView) (s : ℕ) : Type 0 where
  pub some : 0 < s
  pub older : IsWaiting w.phase → 0 < w.session → s < w.session

-- an operation is that of its record, and each earlier request on its key was performed, unless both are Adds; what it
-- says to be stable is sure
pub record IsNext (x : Source) (dc : DcView) (n stable : ℕ) (o : Op) : Type 0 where
  pub sure : stable ≤ x.sure
  pub requests : Requests x.log n o
  pub earlier : EarlierAreCaptured x.log dc n o

-- a session was begun; until it is taken the transaction component waits, and its log has nothing but sessions above
-- the end, from which on the data component will take back
pub record IsConnect (w : TcView) (stored s end : ℕ) : Type 0 where
  pub begun : IsBegun w.stable w.session s
  pub next : stored < s → IsWaiting w.phase × (end ≡ last_not_session w.log)

-- what was sent stands, where its session still runs: of the source what an operation asks for, and up to which number
-- all is answered; where redo was ended all that is answered was performed
abbrev pub IsSent : TcView → DcView → Source → Request → Type 0
IsSent w dc x (asks.Connect s end) = IsConnect w dc.stored s end
IsSent w dc x (asks.Perform s n stable o) = IsOlder w s × InSession dc s (IsNext x dc n stable o)
IsSent w dc x (asks.Get s n k) = IsReadTrue w s n (λ q. q ≡ Key k)
IsSent w dc x (asks.Scan s n low high) = IsReadTrue w s n (λ q. q ≡ Range low high)
IsSent w dc x (asks.LowWater s l) = InSession dc s (IsAnsweredBy x.log x.sure l)
IsSent w dc x (asks.Checkpoint s l) = InSession dc s (IsAnsweredBy x.log x.sure l)
IsSent w dc x (asks.RedoEnd s) = InSession dc s (AnsweredAreCaptured x.log dc)
IsSent w dc x (asks.StableEnd s stable) = InSession dc s (stable ≤ x.sure)

-- the right answer; or none, where all up to the number is answered
abbrev pub IsRightOrNone : Source → ℕ → Option Answer → Type 0
IsRightOrNone x n None = IsAnsweredBy x.log x.sure n
IsRightOrNone x n (Some a) = IsRight x.log n a

-- the answer of a request of the log
pub record IsAnswerIn (x : Source) (n : ℕ) (a : Option Answer) : Type 0 where
  pub op : Op
  pub requests : Requests x.log n op
  pub answer : IsRightOrNone x n a

-- a request of the source that was performed
pub record IsCaptured (x : Source) (dc : DcView) (n : ℕ) : Type 0 where
  pub op : Op
  pub requests : Requests x.log n op
  pub captured : captures_at dc (key_of op) n ≡ true

-- where the reply's session still runs its request was performed, and as long as it is the transaction component's,
-- which has heard that it was taken, it has the answer of a request of the log
pub record IsAnswered (w : TcView) (dc : DcView) (x : Source) (s n : ℕ) (a : Option Answer) : Type 0 where
  pub older : IsOlder w s
  pub captured : InSession dc s (IsCaptured x dc n)
  pub own : (IsWaiting w.phase → ⊥) → s ≡ w.session → IsAnswerIn (own w) n a

-- a row is what the log gives at the key, and rows are those of a table that the log gives in the range
abbrev pub IsValueInSpan : List Record → Option Bytes → Span → Type 0
IsValueInSpan log v (Key k) = v ≡ value_on k log
IsValueInSpan log v _ = Unit {0}

-- rows that the log gives in a range: those of a table that has at each key there what the log gives
pub record AreRowsInRange (log : List Record) (rows : List (Bytes × Bytes)) (r : keys.Range) : Type 0 where
  pub table : Table
  pub rows_are : rows ≡ rows_in r table
  pub values : (k : Bytes) → has_key r k ≡ true → map.get table k ≡ value_on k log

abbrev pub AreRowsInSpan : List Record → List (Bytes × Bytes) → Span → Type 0
AreRowsInSpan log rows (Range low high) = AreRowsInRange log rows (range_of (Range low high))
AreRowsInSpan log rows _ = Unit {0}

-- what was replied stays true: also a row or rows, while they are waited for; and that all leaves are low
abbrev pub StaysTrue : TcView → DcView → Source → Reply → Type 0
StaysTrue w dc x (says.Connected s) = s ≤ dc.stored
StaysTrue w dc x (says.Answered s n a) = IsAnswered w dc x s n a
StaysTrue w dc x (says.Row s n v) = IsReadTrue w s n (IsValueInSpan w.log v)
StaysTrue w dc x (says.Rows s n rows) = IsReadTrue w s n (AreRowsInSpan w.log rows)
StaysTrue w dc x (says.Checkpointed s l) = IsChecked l dc.system
StaysTrue w dc x (says.RedoEnded s) = InSession dc s (dc.redo ≡ false)

-- until redo ends nothing is requested anew
abbrev pub AreBefore : List Record → ℕ → Type 0
AreBefore log s = (n : ℕ) (o : Op) → Requests log n o → n < s

-- from the reply to Connect on the session is the last that the data component took, and while that runs it all before
-- redo's place was performed; from the reply to RedoEnd on it is past redo
abbrev pub IsServed : Phase → ℕ → List Record → DcView → Type 0
IsServed phase.Unconnected s log dc = Unit {0}
IsServed phase.Connecting s log dc = AreBefore log s
IsServed (phase.Redoing next ending) s log dc =
    AreBefore log s × (dc.stored ≡ s) × (dc.session ≡ s → AllAreCaptured log dc next)
IsServed _ s log dc = (dc.stored ≡ s) × (dc.session ≡ s → dc.redo ≡ false)

-- how far the two components are with the session of the transaction component
pub record AreSessions (stable session : ℕ) (at : Phase) (log : List Record) (dc : DcView) : Type 0 where
  pub begun : IsBegun stable session (stored_session dc.system.log)
  pub served : IsServed at session log dc

-- every request up to the leaf's low number is answered among the log's first records, so many
abbrev pub IsLowAnswered : List Record → ℕ → LeafView → Type 0
IsLowAnswered log end leaf = IsAnsweredBy log end leaf.ab.low

-- each cached leaf is honest for the source, each page and each leaf in a record is honest for the transactions' log
-- and has captured stable numbers only; and every request up to its low number is answered
pub record IsTrueTo (w : TcView) (x : Source) (v : SystemView) : Type 0 where
  pub leaves : AllByRecursion (IsHonestLeaf x.log) v.leaves
  pub low : AllByRecursion (IsLowAnswered x.log x.sure) v.leaves
  pub written : AllHave (IsHonestTo w.log w.stable) (pages_of v.pages) v.log
  pub written_low : AllHave (IsLowAnswered w.log w.stable) (pages_of v.pages) v.log

-- the node's invariant; docs/PROOF.md goes by these numbers
pub record IsKept (w : NodeView) : Type 0 where
  -- 1. the transaction component keeps its own: log, open and committing transactions, locks, reads
  pub tc : IsTc w.tc
  -- 2. each answer in the log is the right one
  pub right : HasRightAnswers w.tc.log
  -- 3. the data component keeps its own: leaves that have all keys among them, their log and pages, performances; and
  -- after any crash recovery would give leaves that have all keys among them
  pub dc : IsDc w.dc
  pub recoverable : IsRecoverable w.dc.system
  -- 4. the cached leaves have their effects from the source, which is the log or was it before a crash; they, pages and
  -- leaves in the data component's log are honest, and every request up to a leaf's low number is answered
  pub source : Source
  pub from : IsSource w.tc w.dc.stored source
  pub true_to : IsTrueTo w.tc source w.dc.system
  -- 5. what was performed is the source's
  pub performed : AllByRecursion (λ (p : Performance). Requests source.log p.number p.op) w.dc.performed
  -- 6. past the redo of a session a request that is answered was performed
  pub answered : may_merge w.dc ≡ true → AnsweredAreCaptured source.log w.dc
  -- 7. what was ever sent stands
  pub sent : AllByRecursion (IsSent w.tc w.dc source) w.requests
  -- 8. what was ever replied stays true
  pub given : AllByRecursion (StaysTrue w.tc w.dc source) w.replies
  -- 9. the data component has taken only sessions that the other has started, and while clients are served the same
  pub sessions : AreSessions w.tc.stable w.tc.session w.tc.phase w.tc.log w.dc
  -- 10. every leaf, also after any crash, has captured what redo doesn't send again
  pub checked : IsChecked w.tc.checkpointed w.dc.system
  -- 11. what the data component knows not to be lost is sure, and what its leaves had when they were opened is stable;
  -- and while the transaction component waits nothing but sessions is lost by a crash
  pub known : w.dc.known ≤ source.sure
  pub opened : w.dc.opened_to ≤ last_not_session (beginning w.tc.log w.tc.stable)
  pub quiet : IsWaiting w.tc.phase → last_not_session w.tc.log ≤ w.tc.stable

-- what may be made a node with a data component of no records: a component that was opened on a log, whoever wrote that,
-- where each answer in it is the right one and no checkpoint stands in it, after which redo would leave records out
pub record IsRebuildable (w : TcView) : Type 0 where
  pub bytes : List ℕ
  pub usage : Usage
  pub opened : IsOpened bytes usage w
  pub right : HasRightAnswers w.log
  pub unchecked : w.checkpointed ≡ 0

-- a data component of no records, whatever its devices were used for
abbrev pub IsFreshDc : DcView → Type 0
IsFreshDc dc = (log_usage : Usage) × (page_usage : Usage) × (dc ≡ fresh_dc log_usage page_usage)
