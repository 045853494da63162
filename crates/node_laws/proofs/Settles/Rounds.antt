-- What the next round finds: who waits, or is being rolled back, with the least number.
use Rattle.std.proofs.Common.{◌≡◌, ◌⊎◌, ℕ, ◌≤◌, Bool, true, false, List, [], ◌∷◌, Option, Some, None, is_some, refl, sym, ap, ◌∙◌, inl, inr, arith, true≢false}
use Rattle.std.specs.Prelude.{◌||◌, nat_lt, if◌then◌else◌}
use Rattle.std.proofs.lemmas.Bool.Decides.{nat_tests}
use Rattle.tc_core.specs.declared.open_txn.OpenTxn.{OpenTxn}
use Rattle.tc_core.specs.declared.open_txn.Read.{Read}
use Rattle.tc_core.specs.declared.open_txns.Wanted.TheVariants.{Unanswered, Rolling}
use Rattle.tc_core.specs.OpenTxns.{find, unless, oldest, wants}
use Rattle.tc_core.specs.TcView.{TcView, is_rolling, is_waiting}
use Rattle.tc_core.specs.Kept.{IsTc}
use Rattle.tc_core.proofs.Finding.{IsOldest, oldest_none, oldest_found}
use Rattle.node_laws.specs.declared.round.Round.TheVariants as round
use Rattle.node_laws.specs.Node.{NodeView}
use Rattle.node_laws.specs.Rounds.{AreIdle, IsDue, IsReader, IsRolling, AreRunning, IsNextRound, round_for}
use Rattle.node_laws.specs.Simulation.{AreUnrolled}

-- nobody waits, or is being rolled back, where none is found
pub idle_all : (w : TcView) → oldest (wants Unanswered) w.open_txns ≡ None → AreIdle w.open_txns
idle_all w none t = by (find t w.open_txns) refl
  where
    by : (x : Option OpenTxn) → find t w.open_txns ≡ x → is_waiting (find t w.open_txns) ≡ false
    by None at = ap is_waiting at
    by (Some p) at = ap is_waiting at ∙ oldest_none (wants Unanswered) w.open_txns none t p at

pub unrolled_all : (w : TcView) → oldest (wants Rolling) w.open_txns ≡ None → AreUnrolled w.open_txns
unrolled_all w none t = by (find t w.open_txns) refl
  where
    by : (x : Option OpenTxn) → find t w.open_txns ≡ x → is_rolling (find t w.open_txns) ≡ false
    by None at = ap is_rolling at
    by (Some p) at = ap is_rolling at ∙ oldest_none (wants Rolling) w.open_txns none t p at

-- who is found waits for a number
passes : (test : OpenTxn → Bool) (os : List OpenTxn) (o : OpenTxn) → oldest test os ≡ Some o → test o ≡ true
passes test [] o h = absurd (cc)
passes test (p ∷ os) o h = pick (passes test os o) (oldest test os) refl (test p) refl h
  where
    pick : (oldest test os ≡ Some o → test o ≡ true) → (rest : Option OpenTxn) → oldest test os ≡ rest → (b : Bool)
        → test p ≡ b → unless rest (if b then Some p else None) ≡ Some o → test o ≡ true
    pick older (Some q) at b here e = older (at ∙ e)
    pick older None at true here e = let same : p ≡ o = cc in ap test (sym same) ∙ here
    pick older None at false here e = absurd (cc)

pub some_waiting : (os : List OpenTxn) (o : OpenTxn) → oldest (wants Unanswered) os ≡ Some o
    → ((n : ℕ) × (o.waiting ≡ Some n)) ⊎ ((r : Read) × (o.reading ≡ Some r))
some_waiting os o h = by o.waiting refl o.reading refl
  where
    by : (m : Option ℕ) → o.waiting ≡ m → (r : Option Read) → o.reading ≡ r
        → ((n : ℕ) × (o.waiting ≡ Some n)) ⊎ ((r : Read) × (o.reading ≡ Some r))
    by (Some n) some r is = inl (n, some)
    by None none (Some r) is = inr (r, is)
    by None none None is = absurd
        (true≢false (sym (passes (wants Unanswered) os o h) ∙ ap (λ (m : Option ℕ). is_some m || is_some o.reading) none
        ∙ ap is_some is))

-- and has the least number of them
least : (w : TcView) (o : OpenTxn) → IsOldest (wants Unanswered) w.open_txns o → (u : ℕ)
    → is_waiting (find u w.open_txns) ≡ true → o.txn ≤ u
least w o first u waits = by (find u w.open_txns) refl
  where
    by : (x : Option OpenTxn) → find u w.open_txns ≡ x → o.txn ≤ u
    by None at = absurd (true≢false (sym waits ∙ ap is_waiting at))
    by (Some p) at = first.least u p at (sym (ap is_waiting at) ∙ waits)

pub due : (w : TcView) (o : OpenTxn) (n : ℕ) → IsTc w → oldest (wants Unanswered) w.open_txns ≡ Some o
    → o.waiting ≡ Some n → IsDue w o.txn n
due w o n k h some =
    let first = oldest_found (wants Unanswered) w.open_txns o k.open_txns.order h in
    record { open_txn = o; is = first.found; waiting = some; least = least w o first }

pub reader_due : (w : TcView) (o : OpenTxn) (r : Read) → IsTc w → oldest (wants Unanswered) w.open_txns ≡ Some o
    → o.reading ≡ Some r → IsReader w o.txn
reader_due w o r k h some =
    let first = oldest_found (wants Unanswered) w.open_txns o k.open_txns.order h in
    record { open_txn = o; read = r; is = first.found; reading = some; least = least w o first }

-- so has the one that is to be rolled back further
pub rolling_first : (w : TcView) (o : OpenTxn) → IsTc w → oldest (wants Unanswered) w.open_txns ≡ None
    → oldest (wants Rolling) w.open_txns ≡ Some o → IsRolling w o.txn
rolling_first w o k none h =
    let first = oldest_found (wants Rolling) w.open_txns o k.open_txns.order h in
    record {
      open_txn = o;
      is = first.found;
      rolling = first.passes;
      idle = idle_all w none;
      least = λ u rolls. by first u (find u w.open_txns) refl rolls;
    }
  where
    by : IsOldest (wants Rolling) w.open_txns o → (u : ℕ) (x : Option OpenTxn) → find u w.open_txns ≡ x
        → is_rolling (find u w.open_txns) ≡ true → o.txn ≤ u
    by first u None at rolls = absurd (true≢false (sym rolls ∙ ap is_rolling at))
    by first u (Some p) at rolls = first.least u p at (sym (ap is_rolling at) ∙ rolls)

-- the round of the one that waits: a force, or an exchange
pub next_for : (w : NodeView) (o : OpenTxn) → AreRunning w → IsTc w.tc
    → oldest (wants Unanswered) w.tc.open_txns ≡ Some o → IsNextRound w (round_for o.txn w.tc.stable o.waiting)
next_for w o serves k at = by o.waiting refl
  where
    forced : (n : ℕ) → o.waiting ≡ Some n → (b : Bool) → nat_lt w.tc.stable n ≡ b
        → IsNextRound w (if b then round.Force else round.Exchange o.txn)
    forced n waiting true e = inl (serves, inl (o.txn, n, due w.tc o n k at waiting, grind (arith, nat_tests, e)))
    forced n waiting false e = (serves, inl (n, due w.tc o n k at waiting, grind (arith, nat_tests, e)))

    by : (m : Option ℕ) → o.waiting ≡ m → IsNextRound w (round_for o.txn w.tc.stable m)
    by (Some n) waiting = forced n waiting (nat_lt w.tc.stable n) refl
    by None waiting = elim (some_waiting w.tc.open_txns o at) [
      | inl some ↦ let no : None ≡ Some some.0 = sym waiting ∙ some.1 in absurd (cc)
      | inr read ↦ (serves, inr (reader_due w.tc o read.0 k at read.1))
    ]
