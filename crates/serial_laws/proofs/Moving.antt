-- What a line makes of the entries that stand: the same, fewer, or one more.
use Rattle.std.proofs.Common.{◌≡◌, ℕ, ◌≤◌, Bool, true, false, refl, sym, ap, ◌∙◌, subst, eqb-true, eq-eqb}
use Rattle.std.specs.Prelude.{◌==◌, ◌&&◌, filter, not, if◌then◌else◌}
use Rattle.std.specs.List.{AllByRecursion}
use Rattle.inverse.specs.Inverse.{PassBy}
use Rattle.history.specs.History.{Entry, placed, cross, is_among}
use Rattle.history.specs.ListMachine.{Machine, Open, Waiting, Line, Begins, Acts, TellsAnswer, Reads, TellsRow, TellsRows, Saves, GoesBack, TellsBack, RollsBack, TellsRolledBack, Commits, TellsCommitted, Crashes, TellsLost, IsRefused, HasStatus, Step}
use Rattle.simulation.specs.View.{standing}
use Rattle.simulation.proofs.Entries.{uncross_marked}
use Rattle.serial_laws.specs.Serial.{MayCommit}
use Rattle.serial_laws.proofs.Passing.{PassesAll, Parts, parts}
use Rattle.serial_laws.proofs.Listing.{all_two, all_first, all_true, and_parts, not_false}
use Rattle.serial_laws.proofs.Keeping.{IsAwaited, Awaits, IsKept}
use Rattle.serial_laws.proofs.Falling.{left, now, dropped}

pub data Moves (m n : Machine) : Type 0 where
  Same : standing n.h ≡ standing m.h → Moves m n
  Fewer : (p : Entry → Bool) → standing n.h ≡ filter p (standing m.h)
      → AllByRecursion (λ e. p e ≡ false → MayCommit (m.txns e.txn).status) (standing m.h) → Moves m n
  More : (e : Entry) → HasStatus m e.txn (Waiting e.number e.op) → HasStatus n e.txn Open
      → (p : Parts e (standing m.h) (standing n.h))
      → PassesAll e.op p.newer → Moves m n

crosses : (m n : Machine) (t : ℕ) (p : ℕ → Bool) → HasStatus m t Open → n.h ≡ cross p t m.h → Moves m n
crosses m n t p is same =
    Fewer (λ e. not (e.txn == t && p e.number)) (ap standing same ∙ uncross_marked (λ u k. u == t && p k) m.h)
    (all_true (λ e. not (e.txn == t && p e.number) ≡ false → MayCommit (m.txns e.txn).status) (standing m.h)
    (λ e out.
    let own : e.txn ≡ t = eqb-true e.txn t
    (and_parts (e.txn == t) (p e.number) (not_false (e.txn == t && p e.number) out)).0 in
    subst (λ (u : ℕ). MayCommit (m.txns u).status) (sym own) (subst MayCommit (sym is) tt)))

adds : (m n : Machine) (e : Entry) → IsKept m → HasStatus m e.txn (Waiting e.number e.op) → e.crossed ≡ false
    → n.h ≡ placed e m.h → HasStatus n e.txn Open → Moves m n
adds m n e kept is stands same opened =
    let p : Parts e (standing m.h) (standing n.h) =
    subst (λ h. Parts e (standing m.h) (standing h)) (sym same) (parts e m.h stands) in
    let awaits : IsAwaited (standing m.h) e.txn (m.txns e.txn).spans (m.txns e.txn).saves e.number e.op =
    subst (Awaits (standing m.h) e.txn (m.txns e.txn).spans (m.txns e.txn).saves) is (kept.each e.txn).waits in
    More e is opened p
    (all_two (λ f. e.number ≤ f.number) (λ f. e.number ≤ f.number → PassBy e.op f.op) (λ f. PassBy e.op f.op) p.newer
    (λ f le passes. passes le) p.above
    (all_first (λ f. e.number ≤ f.number → PassBy e.op f.op) p.newer p.older
    (subst (AllByRecursion (λ f. e.number ≤ f.number → PassBy e.op f.op)) p.before awaits.newer)))

pub moves : (m n : Machine) (line : Line) → Step m line n → IsKept m → Moves m n
moves m n (Begins u) h kept = Same (ap (λ y. standing y.h) h.1)
moves m n (Acts u o k) h kept = Same (ap (λ y. standing y.h) h.4)
moves m n (TellsAnswer u a) h kept =
    adds m n (record { number = h.0; txn = u; op = h.1; answer = a; crossed = false }) kept h.2 (λ j. false)
    (ap (λ y. y.h) h.4)
    (ap (λ y. (y.txns u).status) h.4
    ∙ ap (λ (b : Bool). (if b then record (m.txns u) { status = Open } else m.txns u).status) (eq-eqb u u refl))
moves m n (Reads u q) h kept = Same (ap (λ y. standing y.h) h.3)
moves m n (TellsRow u value) h kept = Same (ap (λ y. standing y.h) h.3)
moves m n (TellsRows u rows) h kept = Same (ap (λ y. standing y.h) h.4)
moves m n (Saves u s) h kept = Same (ap (λ y. standing y.h) h.3)
moves m n (GoesBack u s) h kept = crosses m n u (λ k. not (is_among k (h.0))) h.1 (ap (λ y. y.h) h.4)
moves m n (TellsBack u s) h kept = Same (ap (λ y. standing y.h) h.1)
moves m n (RollsBack u) h kept = crosses m n u (λ _. true) h.0 (ap (λ y. y.h) h.1)
moves m n (TellsRolledBack u) h kept = Same (ap (λ y. standing y.h) h.1)
moves m n (Commits u) h kept = Same (ap (λ y. standing y.h) h.1)
moves m n (TellsCommitted u) h kept = Same (ap (λ y. standing y.h) h.1)
moves m n Crashes h kept = Fewer (left m n h kept) (now m n h kept) (dropped m n h kept)
moves m n (TellsLost u) h kept = Same (ap (λ y. standing y.h) h.1)
moves m n (IsRefused call refusal) h kept = Same (ap (λ y. standing y.h) h.1)
