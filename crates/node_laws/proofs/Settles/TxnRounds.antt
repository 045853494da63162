-- How many rounds one open transaction has left.
use Rattle.std.proofs.Common.{◌≡◌, ℕ, ◌+◌, ◌*◌, ◌<◌, ◌≤◌, Bool, true, false, List, ◌∷◌, Option, Some, None, is_some, refl, sym, ap, ◌∙◌, arith, inl, inr, true≢false}
use Rattle.std.specs.Prelude.{◌||◌, nat_lt, if◌then◌else◌}
use Rattle.std.specs.List.{list_any}
use Rattle.std.proofs.Math.Bool.{or-true}
use Rattle.std.proofs.lemmas.Bool.{cases_lt}
use Rattle.std.proofs.lemmas.Bool.Decides.{nat_tests}
use Rattle.history.specs.declared.record.Record.{Record}
use Rattle.history.specs.Log.{op_of}
use Rattle.tc_core.specs.declared.open_txn.OpenTxn.{OpenTxn}
use Rattle.tc_core.specs.declared.open_txn.Read.{Read}
use Rattle.tc_core.specs.declared.open_txn.Rollback.{Rollback}
use Rattle.tc_core.specs.OpenTxns.{find, AreFalling}
use Rattle.tc_core.specs.TcView.{rolls_back, is_rolling, is_waiting, waits}
use Rattle.node_laws.specs.Rounds.{AreIdle}
use Rattle.node_laws.specs.Bound.{left_in, waiting_rounds, rounds_back, rolling_rounds, reading_rounds, txn_rounds, is_busy}
use Rattle.node_laws.specs.Simulation.{AreUnrolled}
use Rattle.node_laws.proofs.Settles.Totals.{any_found, none_found}
use Rattle.node_laws.proofs.Settles.Counting.{left_later}
use Rattle.node_laws.proofs.Settles.Shares.{bound_of}

-- whether a number is stable
pub unstable_now : (s n : ℕ) → s < n → nat_lt s n ≡ true
unstable_now s n h = grind (arith, nat_tests)

pub stable_now : (s n : ℕ) → n ≤ s → nat_lt s n ≡ false
stable_now s n h = grind (arith, nat_tests)

-- of one transaction: a longer log that is stable as far leaves no more of them, unless an operation was logged
pub some_round : (stable n : ℕ) → 1 ≤ (if nat_lt stable n then 2 else 1)
some_round stable n = pick (nat_lt stable n)
  where
    pick : (b : Bool) → 1 ≤ (if b then 2 else 1)
    pick true = omega arith
    pick false = omega arith

waiting_later : (a b : ℕ) (m : Option ℕ) → a ≤ b → waiting_rounds b m ≤ waiting_rounds a m
waiting_later a b None le = omega arith
waiting_later a b (Some n) le = elim (cases_lt b n) [
  | inl less ↦ rw (unstable_now b n less, unstable_now a n (omega (arith, le, less))) (omega arith)
  | inr most ↦ rw (stable_now b n most) (some_round a n)
]

pub rolling_later : (r : Record) (log : List Record) (o : OpenTxn) → op_of r ≡ None
    → rolling_rounds (r ∷ log) o ≤ rolling_rounds log o
rolling_later r log o none = pick o.rolling
  where
    pick : (x : Option Rollback) → rounds_back (r ∷ log) o.txn x ≤ rounds_back log o.txn x
    pick (Some b) = omega (arith, left_later r log o.txn b.above none)
    pick None = omega arith

pub txn_forced : (log : List Record) (a b : ℕ) (o : OpenTxn) → a ≤ b → txn_rounds log b o ≤ txn_rounds log a o
txn_forced log a b o le = omega (arith, waiting_later a b o.waiting le)

pub txn_later : (r : Record) (log : List Record) (a b : ℕ) (o : OpenTxn) → op_of r ≡ None → a ≤ b
    → txn_rounds (r ∷ log) b o ≤ txn_rounds log a o
txn_later r log a b o none le = omega (arith, waiting_later a b o.waiting le, rolling_later r log o none)

-- and as many as it waits for, reads, or has to undo
pub txn_waiting : (log : List Record) (stable n : ℕ) (o : OpenTxn) → o.waiting ≡ Some n
    → txn_rounds log stable o ≡ rolling_rounds log o + (if nat_lt stable n then 2 else 1) + reading_rounds o.reading
txn_waiting log stable n o some =
    ap (λ (m : Option ℕ). rolling_rounds log o + waiting_rounds stable m + reading_rounds o.reading) some

pub txn_reading : (log : List Record) (stable : ℕ) (r : Read) (o : OpenTxn) → o.reading ≡ Some r
    → txn_rounds log stable o ≡ rolling_rounds log o + waiting_rounds stable o.waiting + 1
txn_reading log stable r o some =
    ap (λ (m : Option Read). rolling_rounds log o + waiting_rounds stable o.waiting + reading_rounds m) some

pub txn_rolling : (log : List Record) (stable : ℕ) (o : OpenTxn) (r : Rollback) → o.rolling ≡ Some r
    → txn_rounds log stable o ≡ (3 * left_in log o.txn r.above log + 1) + waiting_rounds stable o.waiting
    + reading_rounds o.reading
txn_rolling log stable o r rolling =
    ap (λ x. rounds_back log o.txn x + waiting_rounds stable o.waiting + reading_rounds o.reading) rolling

-- a rollback has its last round left at least
pub some_rolling : (log : List Record) (stable : ℕ) (o : OpenTxn) → rolls_back o ≡ true → 0 < txn_rounds log stable o
some_rolling log stable o rolling = by o.rolling rolling
  where
    by : (x : Option Rollback) → is_some x ≡ true
        → 0 < rounds_back log o.txn x + waiting_rounds stable o.waiting + reading_rounds o.reading
    by None none = absurd (true≢false (sym none))
    by (Some r) some = omega arith

-- a last force is left where somebody waits or is being rolled back
pub busy_waiting : (os : List OpenTxn) (t n : ℕ) (o : OpenTxn) → find t os ≡ Some o → o.waiting ≡ Some n
    → list_any is_busy os ≡ true
busy_waiting os t n o at some =
    any_found is_busy os t o at
    (ap (λ (m : Option ℕ). rolls_back o || (is_some m || is_some o.reading)) some ∙ or-true (rolls_back o))

pub busy_reading : (os : List OpenTxn) (t : ℕ) (r : Read) (o : OpenTxn) → find t os ≡ Some o → o.reading ≡ Some r
    → list_any is_busy os ≡ true
busy_reading os t r o at some =
    any_found is_busy os t o at
    (ap (λ (m : Option Read). rolls_back o || (is_some o.waiting || is_some m)) some
    ∙ ap (λ (b : Bool). rolls_back o || b) (or-true (is_some o.waiting)) ∙ or-true (rolls_back o))

pub busy_rolling : (os : List OpenTxn) (t : ℕ) (o : OpenTxn) → find t os ≡ Some o → rolls_back o ≡ true
    → list_any is_busy os ≡ true
busy_rolling os t o at rolling = any_found is_busy os t o at (ap (λ (b : Bool). b || waits o) rolling)

pub nobody_busy : (os : List OpenTxn) → AreFalling os → AreUnrolled os → AreIdle os → list_any is_busy os ≡ false
nobody_busy os falls flat idle = none_found is_busy os falls (λ t o at.
    let stands : rolls_back o ≡ false = sym (ap is_rolling at) ∙ flat t in
    let idle_at : waits o ≡ false = sym (ap is_waiting at) ∙ idle t in rw (stands, idle_at) refl)

-- no more than these are left
pub waiting_bound : (stable : ℕ) (m : Option ℕ) → waiting_rounds stable m ≤ 2
waiting_bound stable None = omega arith
waiting_bound stable (Some n) = pick (nat_lt stable n)
  where
    pick : (b : Bool) → (if b then 2 else 1) ≤ 2
    pick true = omega arith
    pick false = omega arith

reading_bound : (r : Option Read) → reading_rounds r ≤ 1
reading_bound None = omega arith
reading_bound (Some r) = omega arith

pub txn_bound : (log : List Record) (stable : ℕ) (o : OpenTxn)
    → txn_rounds log stable o ≤ 3 * left_in log o.txn (bound_of o.rolling) log + 4
txn_bound log stable o = let rolling = pick o.rolling in
    omega (arith, rolling, waiting_bound stable o.waiting, reading_bound o.reading)
  where
    pick : (x : Option Rollback) → rounds_back log o.txn x ≤ 3 * left_in log o.txn (bound_of x) log + 1
    pick (Some r) = omega arith
    pick None = omega arith
