-- What a line makes of a transaction's own entries that stand.
use Rattle.std.proofs.Common.{arith, ◌≡◌, ◌≢◌, ℕ, true, false, List, [], ◌∷◌, ◌++◌, refl, sym, ap, ◌∙◌, ◌⊎◌, true≢false, eq-eqb, ne_eqb}
use Rattle.std.specs.Prelude.{◌==◌, ◌&&◌, filter, not}
use Rattle.std.specs.List.{AllByRecursion}
use Rattle.history.specs.History.{Entry, cross, entries_of, is_among}
use Rattle.history.specs.ListMachine.{Machine, Txn, Committed, Line, Begins, Acts, TellsAnswer, Reads, TellsRow, TellsRows, Saves, GoesBack, TellsBack, RollsBack, TellsRolledBack, Commits, TellsCommitted, Crashes, TellsLost, IsRefused, Step, with_txn}
use Rattle.simulation.specs.View.{standing}
use Rattle.simulation.specs.Lasting.{HasFallen}
use Rattle.simulation.proofs.Entries.{uncross_marked}
use Rattle.simulation.proofs.Owning.{own_marked, own_placed, spared_by}
use Rattle.simulation.proofs.Lasting.{own_stays, stays_or_falls}
use Rattle.serial_laws.specs.Serial.{Stands}
use Rattle.serial_laws.specs.Alone.{is_line_of}
use Rattle.serial_laws.proofs.Changing.{at_txn}
use Rattle.serial_laws.proofs.Falling.{none_may}
use Rattle.serial_laws.proofs.Saved.{kept_of}

-- those of a transaction that stand
own_standing : (t : ℕ) (h : List Entry) → entries_of t (standing h) ≡ standing (entries_of t h)
own_standing t [] = refl
own_standing t (e ∷ h) = grind (arith, own_standing t h)

own_same : (t : ℕ) (g h : List Entry) → entries_of t g ≡ entries_of t h
    → entries_of t (standing g) ≡ entries_of t (standing h)
own_same t g h same = own_standing t g ∙ ap standing same ∙ sym (own_standing t h)

-- a line that isn't its own leaves them, and it
pub record Leaves (m n : Machine) (t : ℕ) : Type 0 where
  pub txn : (n.txns t ≡ m.txns t) ⊎ ((n.txns t).status ≡ Committed)
  pub own : entries_of t (standing n.h) ≡ entries_of t (standing m.h)

other_txn : (t u : ℕ) → (u == t) ≡ false → t ≢ u
other_txn t u off e = true≢false (sym (eq-eqb u t (sym e)) ∙ off)

leaves_with : (m n : Machine) (u : ℕ) (x : Txn) (g : List Entry) (t : ℕ) → t ≢ u
    → entries_of t g ≡ entries_of t m.h → n ≡ record (with_txn m u x) { h = g } → Leaves m n t
leaves_with m n u x g t apart same is = grind (arith, at_txn, own_same)

fallen_not : (n : Machine) (t : ℕ) → HasFallen n t → Stands (n.txns t).status → ⊥
fallen_not n t h h2 = grind arith

leaves_crash : (m n : Machine) (t : ℕ) → Step m Crashes n → Stands (n.txns t).status → Leaves m n t
leaves_crash m n t h h2 = grind (arith, none_may, stays_or_falls, own_same, own_stays, fallen_not)

leaves_told : (m n : Machine) (t u : ℕ) → Step m (TellsCommitted u) n → Leaves m n t
leaves_told m n t u h = grind arith

leaves_lost : (m n : Machine) (t u : ℕ) → Step m (TellsLost u) n → Stands (n.txns t).status → Leaves m n t
leaves_lost m n t u h stands = grind arith

pub leaves : (m n : Machine) (line : Line) (t : ℕ) → Step m line n → is_line_of t line ≡ false → line ≢ Begins t
    → Stands (n.txns t).status → Leaves m n t
leaves m n (Begins u) t h off anew stands = leaves_with m n u _ m.h t (λ e. anew (ap Begins (sym e))) refl h.1
leaves m n (Acts u o k) t h off anew stands = leaves_with m n u _ m.h t (other_txn t u off) refl h.4
leaves m n (TellsAnswer u a) t h off anew stands =
    leaves_with m n u _ _ t (other_txn t u off) (own_placed _ t m.h (other_txn t u off)) h.4
leaves m n (Reads u q) t h off anew stands = leaves_with m n u _ m.h t (other_txn t u off) refl h.3
leaves m n (TellsRow u value) t h off anew stands = leaves_with m n u _ m.h t (other_txn t u off) refl h.3
leaves m n (TellsRows u rows) t h off anew stands = leaves_with m n u _ m.h t (other_txn t u off) refl h.4
leaves m n (Saves u s) t h off anew stands = leaves_with m n u _ m.h t (other_txn t u off) refl h.3
leaves m n (GoesBack u s) t h off anew stands =
    leaves_with m n u _ _ t (other_txn t u off)
    (own_marked _ t m.h (spared_by (λ k. not (is_among k (h.0))) t u (other_txn t u off))) h.4
leaves m n (TellsBack u s) t h off anew stands = leaves_with m n u _ m.h t (other_txn t u off) refl h.1
leaves m n (RollsBack u) t h off anew stands =
    leaves_with m n u _ _ t (other_txn t u off) (own_marked _ t m.h (spared_by (λ _. true) t u (other_txn t u off))) h.1
leaves m n (TellsRolledBack u) t h off anew stands = leaves_with m n u _ m.h t (other_txn t u off) refl h.1
leaves m n (Commits u) t h off anew stands = leaves_with m n u _ m.h t (other_txn t u off) refl h.1
leaves m n (TellsCommitted u) t h off anew stands = leaves_told m n t u h
leaves m n Crashes t h off anew stands = leaves_crash m n t h stands
leaves m n (TellsLost u) t h off anew stands = leaves_lost m n t u h stands
leaves m n (IsRefused call refusal) t h off anew stands = grind arith

-- its answer's entry is the newest of its own
pub own_first : (t : ℕ) (e : Entry) (newer older : List Entry) → e.txn ≡ t → AllByRecursion (λ f. f.txn ≢ t) newer
    → entries_of t (newer ++ e ∷ older) ≡ e ∷ entries_of t (newer ++ older)
own_first t e [] older own none = grind (arith, eq-eqb)
own_first t e (f ∷ newer) older own none = grind (arith, own_first t e newer older own none.1, ne_eqb)

-- a return leaves those of the savepoint
back_own : (t : ℕ) (kept : List ℕ) (s : List Entry)
    → entries_of t (filter (λ e. not (e.txn == t && not (is_among e.number kept))) s) ≡ kept_of kept (entries_of t s)
back_own t kept [] = refl
back_own t kept (e ∷ s) = grind (arith, back_own t kept s)

pub own_back : (t : ℕ) (kept : List ℕ) (h : List Entry)
    → entries_of t (standing (cross (λ k. not (is_among k kept)) t h)) ≡ kept_of kept (entries_of t (standing h))
own_back t kept h =
    ap (entries_of t) (uncross_marked (λ u k. u == t && not (is_among k kept)) h) ∙ back_own t kept (standing h)
