-- What lasts over lines, one at a time and then all of a run.
use Rattle.std.proofs.Common.{◌≡◌, ◌≢◌, ℕ, Bool, true, false, List, [], ◌∷◌, sym, ap, ◌∙◌, subst, arith, ◌⊎◌}
use Rattle.history.specs.History.{Entry, entries_of}
use Rattle.history.specs.ListMachine.{Machine, Status, Committed, Line, Begins, TellsCommitted, Crashes, TellsLost, HasStatus, Falls, AreAllLeft, Survives, Step}
use Rattle.simulation.specs.Lasting.{HasCommitted, HasFallen, CommitsLast}
use Rattle.simulation.proofs.Owning.{IsClosed, IsUntouched, untouched, own_fallen}

-- what a crash makes of one transaction
pub survives_as : (m n : Machine) (t : ℕ) (s : Status) (h : Step m Crashes n) → HasStatus m t s
    → Survives m h.1 t s (n.txns t) (h.0 t)
survives_as m n t s h is = subst (λ x. Survives m h.1 t x (n.txns t) (h.0 t)) is (h.2 t)

pub own_stays : (m n : Machine) (t : ℕ) (h : Step m Crashes n) → h.0 t ≡ false → AreAllLeft h.1 t m.h
    → entries_of t n.h ≡ entries_of t m.h
own_stays m n t h stays left = ap (entries_of t) h.3 ∙ own_fallen h.0 h.1 t m.h stays left

pub falls_so : (m n : Machine) (bound t : ℕ) → Falls m bound t (n.txns t) → HasFallen n t
falls_so m n bound t h = grind arith

-- whether its entries stay, or it has fallen
pub stays_or_falls : (m n : Machine) (bound t : ℕ) (s : Status) (fell : Bool) → Survives m bound t s (n.txns t) fell
    → ((fell ≡ false) × AreAllLeft bound t m.h) ⊎ HasFallen n t
stays_or_falls m n bound t s fell h = grind arith

-- a committed transaction
kept : (m n : Machine) (t : ℕ) (own : List Entry) → HasCommitted m t own → IsUntouched m n t → HasCommitted n t own
kept m n t own has same = grind arith

pub closed_as : (m : Machine) (t : ℕ) (s : Status) → HasStatus m t s → IsClosed s → IsClosed (m.txns t).status
closed_as m t s is closed = subst IsClosed (sym is) closed

-- another's status is another
pub other_than : (m : Machine) (t u : ℕ) (r s : Status) → HasStatus m t r → HasStatus m u s → r ≢ s → t ≡ u → ⊥
other_than m t u r s has at apart e = apart (sym has ∙ ap (λ (k : ℕ). (m.txns k).status) e ∙ at)

-- a line that doesn't give its number again leaves it, and its entries
pub committed_kept : (m n : Machine) (line : Line) (t : ℕ) → Step m line n → line ≢ Begins t → HasStatus m t Committed
    → IsUntouched m n t
committed_kept m n (Begins u) t h anew is = grind (arith, untouched, closed_as)
committed_kept m n (TellsCommitted u) t h anew is = grind (arith, untouched, closed_as, other_than)
committed_kept m n (TellsLost u) t h anew is = grind (arith, untouched, closed_as, other_than)
committed_kept m n Crashes t h anew is = grind (arith, survives_as, own_stays)
committed_kept m n line t h anew is = untouched m n line t h (closed_as m t Committed is tt) tt

-- and none does
not_anew : (m n : Machine) (line : Line) (t : ℕ) → Step m line n → (m.txns t).begun ≡ true → line ≢ Begins t
not_anew m n line t h begun e = grind arith

pub committed_step : (m n : Machine) (line : Line) (t : ℕ) (own : List Entry) → Step m line n → HasCommitted m t own
    → HasCommitted n t own
committed_step m n line t own h has =
    kept m n t own has (committed_kept m n line t h (not_anew m n line t h has.begun) has.status)

pub commits_last : CommitsLast
commits_last m n [] t own steps has = subst (λ x. HasCommitted x t own) (sym steps) has
commits_last m n (line ∷ lines) t own steps has =
    commits_last steps.0 n lines t own steps.2 (committed_step m steps.0 line t own steps.1 has)
