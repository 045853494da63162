-- What the reply to a read is to the list machine.
use Rattle.std.proofs.Common.{◌≡◌, ℕ, true, false, List, Option, Some, refl, ap, ◌∙◌}
use Rattle.std.specs.Ordering.{is_lt}
use Rattle.std.proofs.lemmas.Cmp.{nat_list_cmp_total, tied_itself}
use Rattle.record_key.specs.Table.{Bytes}
use Rattle.history.specs.History.{plain}
use Rattle.history.specs.Values.{value_on}
use Rattle.record_key.specs.Order as keys
use Rattle.record_key.specs.Order.{is_below, HasKeys, has_key}
use Rattle.history.specs.ListMachine.{Machine, TellsRow, TellsRows}
use Rattle.simulation.specs.Running.{LeadsOn as LeadsTo}
use Rattle.tc_locks.specs.declared.span.Span.TheVariants.{Key, Range}
use Rattle.tc_locks.specs.Meant.{range_of}
use Rattle.tc_core.specs.declared.open_txn.OpenTxn.{OpenTxn}
use Rattle.tc_core.specs.declared.open_txn.Read.{Read}
use Rattle.tc_core.specs.OpenTxns.{find}
use Rattle.tc_core.specs.Changes.{was_told}
use Rattle.tc_core.specs.Kept.{IsReading}
use Rattle.tc_core.proofs.KeepsTc.{reading_at}
use Rattle.node_laws.specs.Node.{NodeView}
use Rattle.node_laws.specs.Kept.{IsKept, AreRowsInRange}
use Rattle.node_laws.specs.Simulation.{NodeStandsFor, clients}
use Rattle.node_laws.proofs.Machine.Standing.{stands_row, stands_rows}
use Rattle.node_laws.proofs.Machine.Reading.{logged_plain}
use Rattle.node_laws.proofs.Machine.Rows.{rows_alike}

-- a range has its lower end
low_within : (r : keys.Range) → HasKeys r → has_key r r.lo ≡ true
low_within r some =
    let above : is_below r.lo r.lo ≡ false = ap is_lt (tied_itself nat_list_cmp_total r.lo) in
    rw (above, some) refl

-- a row is told
pub tells_row : (w : NodeView) (o : OpenTxn) (n : ℕ) (key : Bytes) → IsKept w → find o.txn w.tc.open_txns ≡ Some o
    → o.reading ≡ Some (record { number = n; span = Key key })
    → (v : Option Bytes) → v ≡ value_on key w.tc.log → (m : Machine) → NodeStandsFor w m
    → LeadsTo (clients w.tc) m (TellsRow o.txn v) (clients (was_told w.tc o))
tells_row w o n key k at reads v value m stands =
    let r : Read = record { number = n; span = Key key } in
    let reading : IsReading w.tc.reads w.tc.locks o r = reading_at w.tc o r k.tc at reads in
    stands_row w.tc m o k.tc at stands r key v reading.flat reading.idle reads refl
    (value ∙ logged_plain w o r k at reads m stands key (low_within (range_of (Key key)) reading.range))

-- rows are told
pub tells_rows : (w : NodeView) (o : OpenTxn) (n : ℕ) (low : Bytes) (high : Option Bytes) → IsKept w
    → find o.txn w.tc.open_txns ≡ Some o
    → o.reading ≡ Some (record { number = n; span = Range low high }) → (rows : List (Bytes × Bytes))
    → AreRowsInRange w.tc.log rows (range_of (Range low high))
    → (m : Machine) → NodeStandsFor w m → LeadsTo (clients w.tc) m (TellsRows o.txn rows) (clients (was_told w.tc o))
tells_rows w o n low high k at reads rows are m stands =
    let r : Read = record { number = n; span = Range low high } in
    let reading : IsReading w.tc.reads w.tc.locks o r = reading_at w.tc o r k.tc at reads in
    stands_rows w.tc m o k.tc at stands r low high rows reading.flat reading.idle reads refl
    (are.rows_are ∙ rows_alike (range_of (Range low high)) are.table (plain m.h)
    (λ key within. are.values key within ∙ logged_plain w o r k at reads m stands key within))
