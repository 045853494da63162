-- What a line leaves of one transaction and of its entries.
use Rattle.std.proofs.Common.{arith, ◌≡◌, ℕ, ◌≤◌, Bool, true, false, cond, List, [], ◌∷◌, refl, sym, ap, ◌∙◌, subst, inl, inr, eqb-true, ne_eqb}
use Rattle.std.specs.Prelude.{◌==◌, ◌||◌, ◌&&◌, not, map, nat_lt}
use Rattle.std.specs.List.{list_any}
use Rattle.std.proofs.Math.Bool.{or-false}
use Rattle.std.proofs.lemmas.Bool.{le-ltb}
use Rattle.history.specs.History.{Entry, placed, entries_of}
use Rattle.history.specs.ListMachine.{Machine, Txn, Status, Open, Waiting, Reading, Rolling, Line, Begins, Acts, TellsAnswer, Reads, TellsRow, TellsRows, Saves, GoesBack, TellsBack, RollsBack, TellsRolledBack, Commits, TellsCommitted, Crashes, TellsLost, IsRefused, AreAllLeft, HasStatus, Step, with_txn, fallen}
use Rattle.simulation.specs.Lasting.{IsEntry}
use Rattle.simulation.proofs.Entries.{marked}

-- an entry that isn't marked stays as it is
pub unmarked : (f : ℕ → ℕ → Bool) (e : Entry) → f e.txn e.number ≡ false → marked f e ≡ e
unmarked f e spared = λ j. record e { crossed = (ap (λ (b : Bool). e.crossed || b) spared ∙ or-false e.crossed) j }

-- marks on entries of others leave a transaction's own
pub own_marked : (f : ℕ → ℕ → Bool) (t : ℕ) (h : List Entry) → ((n : ℕ) → f t n ≡ false)
    → entries_of t (map (marked f) h) ≡ entries_of t h
own_marked f t [] spared = refl
own_marked f t (e ∷ h) spared = grind (arith, own_marked f t h spared, unmarked, eqb-true)

pub entry_marked : (f : ℕ → ℕ → Bool) (e : Entry) (h : List Entry) → f e.txn e.number ≡ false → IsEntry e h
    → IsEntry e (map (marked f) h)
entry_marked f e [] spared has = absurd has
entry_marked f e (g ∷ h) spared (inl is) = inl (ap (marked f) is ∙ unmarked f e spared)
entry_marked f e (g ∷ h) spared (inr has) = inr (entry_marked f e h spared has)

-- a crash leaves those of one that doesn't fall and keeps its numbers
same_fallen : (fell : ℕ → Bool) (bound : ℕ) (e : Entry) → e.number ≤ bound → fell e.txn ≡ false
    → fallen fell bound e ≡ e
same_fallen fell bound e le stays = rw (le-ltb bound e.number le) (unmarked (λ t n. fell t) e stays)

txn_fallen : (fell : ℕ → Bool) (bound : ℕ) (e : Entry) (b : Bool) → nat_lt bound e.number ≡ b
    → (fallen fell bound e).txn ≡ e.txn
txn_fallen fell bound e b is = grind arith

own_step : (t : ℕ) (e g : Entry) (h k : List Entry) (b : Bool) → (e.txn == t) ≡ b → g.txn ≡ e.txn → (e.txn ≡ t → g ≡ e)
    → entries_of t k ≡ entries_of t h → entries_of t (g ∷ k) ≡ entries_of t (e ∷ h)
own_step t e g h k b is txn same rest = grind arith

pub own_fallen : (fell : ℕ → Bool) (bound t : ℕ) (h : List Entry) → fell t ≡ false → AreAllLeft bound t h
    → entries_of t (map (fallen fell bound) h) ≡ entries_of t h
own_fallen fell bound t [] stays left = refl
own_fallen fell bound t (e ∷ h) stays left =
    grind (arith, own_fallen fell bound t h stays left.1, own_step, txn_fallen, same_fallen)

pub entry_fallen : (fell : ℕ → Bool) (bound : ℕ) (e : Entry) (h : List Entry) → fell e.txn ≡ false → e.number ≤ bound
    → IsEntry e h → IsEntry e (map (fallen fell bound) h)
entry_fallen fell bound e [] stays le has = absurd has
entry_fallen fell bound e (g ∷ h) stays le (inl is) = grind (arith, same_fallen)
entry_fallen fell bound e (g ∷ h) stays le (inr has) = inr (entry_fallen fell bound e h stays le has)

-- and so does an entry of another
pub own_placed : (e : Entry) (t : ℕ) (h : List Entry) → (t ≡ e.txn → ⊥) → entries_of t (placed e h) ≡ entries_of t h
own_placed e t [] apart = ap (λ (b : Bool). cond b (e ∷ []) []) (ne_eqb e.txn t (λ s. apart (sym s)))
own_placed e t (f ∷ h) apart = grind (arith, own_placed e t h apart, ne_eqb)

pub entry_placed : (e g : Entry) (h : List Entry) → IsEntry e h → IsEntry e (placed g h)
entry_placed e g [] has = absurd has
entry_placed e g (f ∷ h) (inl is) = grind arith
entry_placed e g (f ∷ h) (inr has) = grind (arith, entry_placed e g h has)

-- no crossing of another's names it
pub spared_by : (p : ℕ → Bool) (t u : ℕ) → (t ≡ u → ⊥) → (n : ℕ) → ((t == u) && p n) ≡ false
spared_by p t u apart n = ap (λ (b : Bool). b && p n) (ne_eqb t u apart)

-- nothing is done to it
pub record IsUntouched (m n : Machine) (t : ℕ) : Type 0 where
  pub txn : n.txns t ≡ m.txns t
  pub own : entries_of t n.h ≡ entries_of t m.h

-- where another is changed, and its own entries aren't
changed : (m n : Machine) (t u : ℕ) (x : Txn) (g : List Entry) → (t ≡ u → ⊥) → entries_of t g ≡ entries_of t m.h
    → n ≡ record (with_txn m u x) { h = g }
    → IsUntouched m n t
changed m n t u x g apart own is = grind arith

-- it waits for no call and no answer
abbrev pub IsClosed : Status → Type 0
IsClosed Open = ⊥
IsClosed (Waiting n o) = ⊥
IsClosed (Reading q) = ⊥
IsClosed (Rolling s) = ⊥
IsClosed _ = Unit {0}

other : (m : Machine) (t u : ℕ) (s : Status) → IsClosed (m.txns t).status → HasStatus m u s → (IsClosed s → ⊥)
    → t ≡ u → ⊥
other m t u s closed at active e = active (subst IsClosed (ap (λ (k : ℕ). (m.txns k).status) e ∙ at) closed)

-- then only these lines may touch it
abbrev pub Spares : ℕ → Line → Type 0
Spares t (Begins u) = t ≡ u → ⊥
Spares t (TellsCommitted u) = t ≡ u → ⊥
Spares t Crashes = ⊥
Spares t (TellsLost u) = t ≡ u → ⊥
Spares t _ = Unit {0}

pub untouched : (m n : Machine) (line : Line) (t : ℕ) → Step m line n → IsClosed (m.txns t).status → Spares t line
    → IsUntouched m n t
untouched m n (Begins u) t h closed apart = changed m n t u _ m.h apart refl h.1
untouched m n (Acts u o k) t h closed spared = changed m n t u _ m.h (other m t u Open closed h.0 (λ x. x)) refl h.4
untouched m n (TellsAnswer u a) t h closed spared = grind (arith, other, changed, own_placed)
untouched m n (Reads u q) t h closed spared = changed m n t u _ m.h (other m t u Open closed h.0 (λ x. x)) refl h.3
untouched m n (TellsRow u value) t h closed spared = grind (arith, changed, other)
untouched m n (TellsRows u rows) t h closed spared = grind (arith, changed, other)
untouched m n (Saves u s) t h closed spared = changed m n t u _ m.h (other m t u Open closed h.0 (λ x. x)) refl h.3
untouched m n (GoesBack u s) t h closed spared =
    let apart = other m t u Open closed h.1 (λ x. x) in
    changed m n t u _ _ apart (own_marked _ t m.h (spared_by (λ k. not (list_any (λ j. j == k) h.0)) t u apart)) h.4
untouched m n (TellsBack u s) t h closed spared = grind (arith, changed, other)
untouched m n (RollsBack u) t h closed spared =
    let apart = other m t u Open closed h.0 (λ x. x) in
    changed m n t u _ _ apart (own_marked _ t m.h (spared_by (λ _. true) t u apart)) h.1
untouched m n (TellsRolledBack u) t h closed spared = grind (arith, changed, other)
untouched m n (Commits u) t h closed spared = changed m n t u _ m.h (other m t u Open closed h.0 (λ x. x)) refl h.1
untouched m n (TellsCommitted u) t h closed apart = changed m n t u _ m.h apart refl h.1
untouched m n Crashes t h closed none = absurd none
untouched m n (TellsLost u) t h closed apart = changed m n t u _ m.h apart refl h.1
untouched m n (IsRefused call refusal) t h closed spared = grind arith
