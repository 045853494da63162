-- How many rounds of settling are left, and a bound on them.
use Rattle.std.specs.Prelude.{ℕ, ◌+◌, ◌*◌, ◌==◌, ◌&&◌, ◌||◌, Bool, true, false, not, List, [], ◌∷◌, Option, Some, None, length, nat_le, nat_lt, if◌then◌else◌}
use Rattle.std.specs.List.{list_any}
use Rattle.record_key.specs.declared.op.Op.{Op}
use Rattle.history.specs.declared.record.Record.{Record}
use Rattle.history.specs.declared.record.Record.TheVariants as is
use Rattle.history.specs.Log.{request_of, is_crossed, has_ended}
use Rattle.tc_core.specs.declared.open_txn.OpenTxn.{OpenTxn}
use Rattle.tc_core.specs.declared.open_txn.Read.{Read}
use Rattle.tc_core.specs.declared.open_txn.Rollback.{Rollback}
use Rattle.tc_core.specs.declared.phase.Phase.{Phase}
use Rattle.tc_core.specs.declared.phase.Phase.TheVariants as phase
use Rattle.tc_core.specs.TcView.{TcView, is_running, rolls_back, waits}
use Rattle.node_laws.specs.Node.{NodeView}

-- how many of these numbers ask for something
abbrev pub asked : Option Op → ℕ
asked None = 0
asked (Some o) = 1

abbrev pub requests_in : ℕ → ℕ → List Record → ℕ
requests_in from below [] = 0
requests_in from below (r ∷ log) =
    (if nat_le from (length log + 1) && nat_lt (length log + 1) below then asked (request_of r) else 0)
    + requests_in from below log

-- how many operations of the transaction above this number no compensation of the whole log names
abbrev pub left_in : List Record → ℕ → ℕ → List Record → ℕ
left_in whole t above [] = 0
left_in whole t above (is.Op txn prev op ∷ log) =
    (if txn == t && (nat_lt above (length log + 1) && not (is_crossed whole (length log + 1))) then 1 else 0)
    + left_in whole t above log
left_in whole t above (r ∷ log) = left_in whole t above log

-- how many rounds are left: for an answer, a force unless its record is stable, and an exchange
abbrev pub waiting_rounds : ℕ → Option ℕ → ℕ
waiting_rounds stable None = 0
waiting_rounds stable (Some n) = if nat_lt stable n then 2 else 1

-- for a rollback, three for each operation that is left, and one for the end
abbrev pub rounds_back : List Record → ℕ → Option Rollback → ℕ
rounds_back log t None = 0
rounds_back log t (Some r) = 3 * left_in log t r.above log + 1

abbrev pub rolling_rounds : List Record → OpenTxn → ℕ
rolling_rounds log o = rounds_back log o.txn o.rolling

-- for a read, an exchange
abbrev pub reading_rounds : Option Read → ℕ
reading_rounds None = 0
reading_rounds (Some r) = 1

abbrev pub txn_rounds : List Record → ℕ → OpenTxn → ℕ
txn_rounds log stable o = rolling_rounds log o + waiting_rounds stable o.waiting + reading_rounds o.reading

-- over all of these
abbrev pub total : (OpenTxn → ℕ) → List OpenTxn → ℕ
total count [] = 0
total count (o ∷ os) = count o + total count os

-- to connect, to send each earlier request again, to end redo
abbrev pub phase_rounds : List Record → ℕ → Phase → ℕ
phase_rounds log s phase.Unconnected = requests_in 1 (length log + 1) log + 2
phase_rounds log s phase.Connecting = requests_in 1 (length log + 1) log + 2
phase_rounds log s (phase.Redoing next ending) = requests_in next s log + 1
phase_rounds log s _ = 0

-- a transaction that began below this number and has neither a Commit nor an End is undone
abbrev pub is_lost : List Record → ℕ → ℕ → Bool
is_lost whole below t = nat_lt t below && not (has_ended whole t)

-- whether the record of this number is such a one's operation that is left
abbrev pub lost_op : List Record → ℕ → ℕ → Record → ℕ
lost_op whole below n (is.Op txn prev op) = if is_lost whole below txn && not (is_crossed whole n) then 1 else 0
lost_op whole below n _ = 0

abbrev pub lost_ops : List Record → ℕ → List Record → ℕ
lost_ops whole below [] = 0
lost_ops whole below (r ∷ log) = lost_op whole below (length log + 1) r + lost_ops whole below log

-- and whether it is such a one's beginning
abbrev pub lost_end : List Record → ℕ → ℕ → Record → ℕ
lost_end whole below n is.Begin = if is_lost whole below n then 1 else 0
lost_end whole below n _ = 0

abbrev pub lost_ends : List Record → ℕ → List Record → ℕ
lost_ends whole below [] = 0
lost_ends whole below (r ∷ log) = lost_end whole below (length log + 1) r + lost_ends whole below log

-- for losers three for each operation that is left, and one for each end
abbrev pub lost_rounds : List Record → ℕ → ℕ
lost_rounds log below = 3 * lost_ops log below log + lost_ends log below log

-- for the compensation that their undo awaits, as for an open transaction's
abbrev pub undo_rounds : ℕ → Phase → ℕ
undo_rounds stable (phase.Undoing waiting) = waiting_rounds stable waiting
undo_rounds stable _ = 0

-- a last force, where something isn't stable or may be logged
abbrev pub is_busy : OpenTxn → Bool
is_busy o = rolls_back o || waits o

abbrev pub force_rounds : TcView → ℕ
force_rounds w = if not (is_running w.phase)
    || (list_any is_busy w.open_txns || nat_lt w.stable (length w.log)) then 1 else 0

-- where the data component runs the session
abbrev pub tc_rounds : TcView → ℕ
tc_rounds w =
    phase_rounds w.log w.session w.phase + total (txn_rounds w.log w.stable) w.open_txns
    + lost_rounds w.log w.losers.below
    + undo_rounds w.stable w.phase + force_rounds w

-- where it doesn't, a session has to begin first
abbrev pub without_session : TcView → TcView
without_session w = record w { phase = phase.Unconnected }

abbrev pub is_apart : Phase → Bool
is_apart phase.Unconnected = true
is_apart phase.Connecting = true
is_apart _ = false

abbrev pub session_rounds : TcView → ℕ → ℕ
session_rounds w s = if is_apart w.phase || not (s == w.session) then tc_rounds (without_session w) else tc_rounds w

-- to restart a component
abbrev pub down_rounds : Bool → ℕ
down_rounds up = if up then 0 else 1

-- every round takes one of them at least
abbrev pub rounds_left : NodeView → ℕ
rounds_left w = down_rounds w.tc_up + down_rounds w.dc_up + session_rounds w.tc w.dc.session

-- records of operations and compensations, and of beginnings
abbrev pub steps_in : List Record → ℕ
steps_in [] = 0
steps_in (is.Op t p o ∷ log) = 1 + steps_in log
steps_in (is.Comp t u x i ∷ log) = 1 + steps_in log
steps_in (r ∷ log) = steps_in log

abbrev pub begins_in : List Record → ℕ
begins_in [] = 0
begins_in (is.Begin ∷ log) = 1 + begins_in log
begins_in (r ∷ log) = begins_in log

-- no settling takes more rounds
abbrev pub most_rounds : List Record → ℕ
most_rounds log = 8 + 4 * steps_in log + 4 * begins_in log
