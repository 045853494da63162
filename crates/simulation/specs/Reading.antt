-- The list machine that a log tells of alone: what a component stands for that is opened on a log whose past nobody
-- knows.
use Rattle.std.specs.Prelude.{ℕ, ◌+◌, ◌==◌, ◌||◌, Bool, false, List, [], ◌∷◌, Option, Some, None, length, map, if◌then◌else◌}
use Rattle.record_key.specs.declared.op.Op.{Op}
use Rattle.history.specs.declared.record.Record.{Record}
use Rattle.history.specs.declared.record.Record.TheVariants as is
use Rattle.history.specs.History.{Entry}
use Rattle.history.specs.Log.{record_at, op_of, hist}
use Rattle.history.specs.Legal.{IsLegal}
use Rattle.history.specs.ListMachine.{Machine, Txn, Status, Committed, Losing, Gone}
use Rattle.history.specs.Spans.{Span, changed_span}
use Rattle.simulation.specs.View.{is_begin, is_left_open, opened, StandsFor}

-- a transaction's operations with their numbers, the newest first
abbrev pub also_by : ℕ → ℕ → Option (ℕ × Op) → List (ℕ × Op) → List (ℕ × Op)
also_by t n None ops = ops
also_by t n (Some by) ops = if by.0 == t then (n, by.1) ∷ ops else ops

abbrev pub operations_of : List Record → ℕ → List (ℕ × Op)
operations_of [] t = []
operations_of (r ∷ log) t = also_by t (length log + 1) (op_of r) (operations_of log t)

abbrev pub last_of : List (ℕ × Op) → Option (ℕ × Op)
last_of [] = None
last_of (x ∷ xs) = Some x

-- its Commit stands
abbrev pub has_committed : List Record → ℕ → Bool
has_committed [] t = false
has_committed (is.Commit u ∷ log) t = (t == u) || has_committed log t
has_committed (r ∷ log) t = has_committed log t

-- whoever has neither Commit nor End loses, whoever has its Commit has committed, and all others are gone
abbrev pub status_read : Bool → Bool → Status
status_read loses committed = if loses then Losing else (if committed then Committed else Gone)

-- a loser holds the keys of its operations
abbrev pub spans_read : Bool → List (ℕ × Op) → List Span
spans_read loses ops = if loses then map (λ x. changed_span x.1) ops else []

abbrev pub txn_read : List Record → ℕ → Txn
txn_read log t = record {
  begun = is_begin (record_at log t);
  status = status_read (is_left_open log t) (has_committed log t);
  saves = [];
  last = last_of (operations_of log t);
  spans = spans_read (is_left_open log t) (operations_of log t);
}

-- the log's answered operations, of which those of losers are crossed out too
abbrev pub read_by : (ℕ → Bool) → Entry → Entry
read_by loses e = record e { crossed = e.crossed || loses e.txn }

abbrev pub machine_read : List Record → Machine
machine_read log = record { h = map (read_by (is_left_open log)) (hist log); txns = txn_read log }

-- a component that is opened on a legal log stands for it
abbrev pub OpenedIsRead : Type 0
OpenedIsRead = (log : List Record) → IsLegal log → StandsFor (opened log) (machine_read log)
