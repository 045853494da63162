-- The open transactions share the operations of the log, and each has its Begin record.
use Rattle.std.proofs.Common.{◌≡◌, ℕ, ◌+◌, ◌<◌, ◌≤◌, Bool, true, false, List, [], ◌∷◌, length, Some, None, refl, sym, ap, ◌∙◌, subst, arith, inl, inr, ne_eqb}
use Rattle.std.specs.Prelude.{◌==◌, ◌&&◌, not, nat_lt, Option, if◌then◌else◌}
use Rattle.std.proofs.lemmas.Bool.{cases_eq, cases_lt}
use Rattle.std.proofs.lemmas.Bool.Decides.{nat_tests}
use Rattle.history.specs.declared.record.Record.{Record}
use Rattle.history.specs.declared.record.Record.TheVariants as is
use Rattle.history.specs.Log.{record_at, is_crossed}
use Rattle.log_laws.proofs.Records.{newest_at, older_at, within}
use Rattle.tc_core.specs.declared.open_txn.OpenTxn.{OpenTxn}
use Rattle.tc_core.specs.declared.open_txn.Rollback.{Rollback}
use Rattle.tc_core.specs.OpenTxns.{find, AreBelow, AreFalling}
use Rattle.tc_core.proofs.Finding.{find_here, find_above}
use Rattle.node_laws.specs.Bound.{left_in, total, is_lost, lost_ops, lost_end, lost_ends, steps_in, begins_in}
use Rattle.node_laws.proofs.Settles.Totals.{total_sum, found_still}
use Rattle.node_laws.proofs.Settles.Counting.{flag_above}

-- an operation is of this transaction, and counts
abbrev counts : ℕ → Bool → OpenTxn → ℕ
counts u c o = if u == o.txn && c then 1 else 0

-- at most what a flag is worth
pub worth : (b : Bool) → (if b then 1 else 0) ≤ 1
worth true = omega arith
worth false = omega arith

-- it is of nobody below its own
none_else : (u : ℕ) (c : Bool) (os : List OpenTxn) → AreBelow u os → total (counts u c) os ≡ 0
none_else u c [] below = refl
none_else u c (p ∷ os) below = let rest = none_else u c os below.1 in
    rw (ne_eqb u p.txn (λ e. omega (arith, e, below.0))) (omega (arith, rest))

-- so it is of one at most
one_at_most : (u : ℕ) (c : Bool) (os : List OpenTxn) → AreFalling os → total (counts u c) os ≤ 1
one_at_most u c [] falls = omega arith
one_at_most u c (p ∷ os) falls = elim (cases_eq u p.txn) [
  | inl same ↦
      let P : ℕ → Type 0 = λ t. AreBelow t os in
      let rest = none_else u c os (subst P (sym same) falls.0) in
      omega (arith, rest, worth (u == p.txn && c))
  | inr apart ↦ let rest = one_at_most u c os falls.1 in rw (ne_eqb u p.txn apart) (omega (arith, rest))
]

-- they began at this number or later
abbrev pub AreLate : ℕ → List OpenTxn → Type 0
AreLate below os = (t : ℕ) (o : OpenTxn) → find t os ≡ Some o → below ≤ t

rest_late : (below : ℕ) (p : OpenTxn) (os : List OpenTxn) → AreFalling (p ∷ os) → AreLate below (p ∷ os)
    → AreLate below os
rest_late below p os falls late t o h = late t o (found_still p os t o falls.0 h)

-- so an operation of one that began before it is of none of them
none_early : (u : ℕ) (c : Bool) (below : ℕ) (os : List OpenTxn) → AreFalling os → AreLate below os → u < below
    → total (counts u c) os ≡ 0
none_early u c below [] falls late early = refl
none_early u c below (p ∷ os) falls late early =
    let rest = none_early u c below os falls.1 (rest_late below p os falls late) early in
    let own : below ≤ p.txn = late p.txn p (find_here p os p.txn refl) in
    rw (ne_eqb u p.txn (λ e. omega (arith, e, own, early))) (omega (arith, rest))

-- it is of one of them or of a loser
one_of_all : (whole : List Record) (below u : ℕ) (c : Bool) (os : List OpenTxn) → AreFalling os → AreLate below os
    → total (counts u c) os + (if is_lost whole below u && c then 1 else 0) ≤ 1
one_of_all whole below u c os falls late = elim (cases_lt u below) [
  | inl early ↦ let none = none_early u c below os falls late early in let flag = worth (is_lost whole below u && c) in
      omega (arith, none, flag)
  | inr le ↦ let one = one_at_most u c os falls in let not_lost : nat_lt u below ≡ false =
      grind (arith, nat_tests, le) in rw (not_lost) (omega (arith, one))
]

nothing_left : (os : List OpenTxn) → total (λ o. 0) os ≡ 0
nothing_left [] = refl
nothing_left (o ∷ os) = let rest = nothing_left os in omega (arith, rest)

-- how far a transaction rolls back; one that doesn't has nothing left
abbrev pub bound_of : Option Rollback → ℕ
bound_of None = 0
bound_of (Some r) = r.above

-- whose operation it is, above its bound or not
few_counts : (u number : ℕ) (c : Bool) (os : List OpenTxn)
    → total (λ (o : OpenTxn). if u == o.txn && (nat_lt (bound_of o.rolling) number && c) then 1 else 0) os
    ≤ total (counts u c) os
few_counts u number c [] = omega arith
few_counts u number c (o ∷ os) = let rest = few_counts u number c os in let here =
    flag_above (u == o.txn) (nat_lt (bound_of o.rolling) number) c in omega (arith, rest, here)

-- the operations that are left to undo, of all of them and of losers
pub left_are_steps : (whole log : List Record) (below : ℕ) (os : List OpenTxn) → AreFalling os → AreLate below os
    → total (λ (o : OpenTxn). left_in whole o.txn (bound_of o.rolling) log) os + lost_ops whole below log ≤ steps_in log
left_are_steps whole [] below os falls late = omega (arith, nothing_left os)
left_are_steps whole (is.Op u p q ∷ log) below os falls late =
    let c : Bool = not (is_crossed whole (length log + 1)) in
    let mine : OpenTxn → ℕ = λ o. if u == o.txn && (nat_lt (bound_of o.rolling) (length log + 1) && c) then 1 else 0 in
    let sum = total_sum mine (λ (o : OpenTxn). left_in whole o.txn (bound_of o.rolling) log) os in
    omega (
      arith,
      sum,
      few_counts u (length log + 1) c os,
      one_of_all whole below u c os falls late,
      left_are_steps whole log below os falls late,
    )
left_are_steps whole (is.Comp u m n i ∷ log) below os falls late = let rest =
    left_are_steps whole log below os falls late in omega (arith, rest)
left_are_steps whole (is.Session ∷ log) below os falls late = let rest = left_are_steps whole log below os falls late in
    omega (arith, rest)
left_are_steps whole (is.Begin ∷ log) below os falls late = let rest = left_are_steps whole log below os falls late in
    omega (arith, rest)
left_are_steps whole (is.Answer n x ∷ log) below os falls late = let rest =
    left_are_steps whole log below os falls late in omega (arith, rest)
left_are_steps whole (is.Commit u ∷ log) below os falls late = let rest =
    left_are_steps whole log below os falls late in omega (arith, rest)
left_are_steps whole (is.End u ∷ log) below os falls late = let rest = left_are_steps whole log below os falls late in
    omega (arith, rest)
left_are_steps whole (is.Checkpoint l ∷ log) below os falls late = let rest =
    left_are_steps whole log below os falls late in omega (arith, rest)

-- each has begun
abbrev pub HaveBegun : List Record → List OpenTxn → Type 0
HaveBegun log os = (t : ℕ) (o : OpenTxn) → find t os ≡ Some o → record_at log t ≡ Some is.Begin

-- a loser's beginning is one of the log's
begins_longer : (whole : List Record) (below : ℕ) (r : Record) (log : List Record)
    → lost_end whole below (length log + 1) r + begins_in log ≤ begins_in (r ∷ log)
begins_longer whole below is.Session log = omega arith
begins_longer whole below is.Begin log = let flag = worth (is_lost whole below (length log + 1)) in omega (arith, flag)
begins_longer whole below (is.Op t p o) log = omega arith
begins_longer whole below (is.Answer n x) log = omega arith
begins_longer whole below (is.Comp u m n i) log = omega arith
begins_longer whole below (is.Commit u) log = omega arith
begins_longer whole below (is.End u) log = omega arith
begins_longer whole below (is.Checkpoint l) log = omega arith

lost_begun : (whole : List Record) (below : ℕ) (log : List Record) → lost_ends whole below log ≤ begins_in log
lost_begun whole below [] = omega arith
lost_begun whole below (r ∷ log) = let rest = lost_begun whole below log in
    omega (arith, rest, begins_longer whole below r log)

below_more : (t u : ℕ) (os : List OpenTxn) → t ≤ u → AreBelow t os → AreBelow u os
below_more t u [] le below = tt
below_more t u (o ∷ os) le below = (omega (arith, le, below.0), below_more t u os le below.1)

-- those below a number have begun before it
older_begun : (r : Record) (log : List Record) (os : List OpenTxn) → AreBelow (length log + 1) os
    → HaveBegun (r ∷ log) os → HaveBegun log os
older_begun r log os below begun t o h =
    older_at (λ x. x ≡ Some is.Begin) r log t
    (λ e. let none : None ≡ Some o = sym (find_above (length log + 1) os below) ∙ ap (λ (u : ℕ). find u os) (sym e)
    ∙ h in cc) (begun t o h)

-- no more of them are open, or lost, than have begun
pub are_begun : (whole log : List Record) (below : ℕ) (os : List OpenTxn) → AreFalling os → AreLate below os
    → HaveBegun log os → length os + lost_ends whole below log ≤ begins_in log
are_begun whole log below [] falls late begun = let rest = lost_begun whole below log in omega (arith, rest)
are_begun whole [] below (p ∷ os) falls late begun = let none : None ≡ Some is.Begin =
    begun p.txn p (find_here p os p.txn refl) in absurd (cc)
are_begun whole (r ∷ log) below (p ∷ os) falls late begun =
    let here : record_at (r ∷ log) p.txn ≡ Some is.Begin = begun p.txn p (find_here p os p.txn refl) in
    elim (cases_eq p.txn (length log + 1)) [
      | inl newest ↦
          let P : ℕ → Type 0 = λ t. AreBelow t os in
          let rest = are_begun whole log below os falls.1 (rest_late below p os falls late)
          (older_begun r log os (subst P newest falls.0) (λ t o h. begun t o (found_still p os t o falls.0 h))) in
          let one : Some r ≡ Some is.Begin = newest_at (λ x. x ≡ Some is.Begin) r log p.txn newest here in
          let same : r ≡ is.Begin = cc in
          let own : below ≤ p.txn = late p.txn p (find_here p os p.txn refl) in
          let not_lost : nat_lt (length log + 1) below ≡ false = grind (arith, nat_tests, newest, own) in
          rw (same, not_lost) (omega (arith, rest))
      | inr apart ↦
          let number = within (λ x. x ≡ Some is.Begin) (λ e. cc) (r ∷ log) p.txn here in
          let less : p.txn < length log + 1 = omega (arith, number.bounded, apart) in
          let all_below : AreBelow (length log + 1) (p ∷ os) =
          (less, below_more p.txn (length log + 1) os (omega (arith, less)) falls.0) in
          omega (
            arith,
            are_begun whole log below (p ∷ os) falls late (older_begun r log (p ∷ os) all_below begun),
            begins_longer whole below r log,
          )
    ]
