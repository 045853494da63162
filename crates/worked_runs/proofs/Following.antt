-- Each line of these kinds leaves one machine, and what a machine has of others stays while one transaction changes.
use Rattle.std.proofs.Common.{◌≡◌, ◌≢◌, ℕ, ◌<◌, true, List, [], ◌∷◌, ◌++◌, None, subst, arith}
use Rattle.std.specs.List.{AllByRecursion}
use Rattle.record_key.specs.declared.op.Answer.{Answer}
use Rattle.history.specs.History.{cross}
use Rattle.history.specs.Spans.{Span, AnyConflict}
use Rattle.history.specs.ListMachine.{Machine, Txn, Status, Open, Waiting, Reading, Rolling, Committing, Committed, Gone, asked_span, Line, Begins, Acts, TellsAnswer, Reads, TellsRow, RollsBack, TellsRolledBack, Commits, TellsCommitted, Step, Steps, IsAbove, IsFree, with_txn, with_status, ended}
use Rattle.worked_runs.proofs.Walking.{begun, acted, told}

-- what an answer leaves, by what its transaction waits for
abbrev answered : Machine → ℕ → Answer → Status → Machine
answered m t a (Waiting k o) = told m t o k a
answered m t a _ = m

-- what a line leaves
abbrev pub next : Machine → Line → Machine
next m (Begins t) = begun m t
next m (Acts t o k) = acted m t o k
next m (TellsAnswer t a) = answered m t a (m.txns t).status
next m (Reads t q) =
    with_txn m t (record (m.txns t) { status = Reading q; spans = asked_span q ∷ (m.txns t).spans })
next m (TellsRow t value) = with_status m t Open
next m (Commits t) = with_status m t Committing
next m (TellsCommitted t) = with_txn m t (ended (m.txns t) Committed)
next m (RollsBack t) = record (with_status m t (Rolling None)) { h = cross (λ _. true) t m.h }
next m (TellsRolledBack t) = with_txn m t (ended (m.txns t) Gone)
next m _ = m

abbrev pub next_all : Machine → List Line → Machine
next_all m [] = m
next_all m (line ∷ lines) = next_all (next m line) lines

-- lines of which that is so
abbrev pub IsPlain : Line → Type 0
IsPlain (Begins t) = Unit {0}
IsPlain (Acts t o k) = Unit {0}
IsPlain (TellsAnswer t a) = Unit {0}
IsPlain (Reads t q) = Unit {0}
IsPlain (TellsRow t value) = Unit {0}
IsPlain (Commits t) = Unit {0}
IsPlain (TellsCommitted t) = Unit {0}
IsPlain (RollsBack t) = Unit {0}
IsPlain (TellsRolledBack t) = Unit {0}
IsPlain _ = ⊥

leaves_next : (m : Machine) (line : Line) (n : Machine) → IsPlain line → Step m line n → n ≡ next m line
leaves_next m line n plain h = grind arith

-- so what follows such lines follows from there
pub after_all : (m : Machine) (lines rest : List Line) (last : Machine) → AllByRecursion IsPlain lines
    → Steps m (lines ++ rest) last → Steps (next_all m lines) rest last
after_all m [] rest last plain h = h
after_all m (line ∷ lines) rest last plain h =
    after_all (next m line) lines rest last plain.1
    (subst (λ x. Steps x (lines ++ rest) last) (leaves_next m line h.0 plain.0 h.1) h.2)

-- ---- one transaction changes

pub below_with : (m : Machine) (t k : ℕ) (x : Txn) → t < k → ((u : ℕ) → (m.txns u).begun ≡ true → u < k)
    → (u : ℕ) → ((with_txn m t x).txns u).begun ≡ true → u < k
below_with m t k x own below u has = grind arith

pub above_with : (m : Machine) (t k : ℕ) (x : Txn) → IsAbove k x.status → ((u : ℕ) → IsAbove k (m.txns u).status)
    → (u : ℕ) → IsAbove k ((with_txn m t x).txns u).status
above_with m t k x own above u = grind arith

-- nobody but this transaction is in the way of a span
pub free_with : (m : Machine) (t v : ℕ) (x : Txn) (s : Span) → (v ≢ t → AnyConflict s x.spans → ⊥) → IsFree m t s
    → IsFree (with_txn m v x) t s
free_with m t v x s own free u apart h = grind arith
