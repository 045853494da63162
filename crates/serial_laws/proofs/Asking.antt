-- Who is among those that asked to commit.
use Rattle.std.proofs.lemmas.Bool.Decides.{nat_tests}
use Rattle.std.proofs.Common.{arith, ◌≡◌, ◌≢◌, ℕ, Bool, true, false, List, [], ◌∷◌, refl, sym, subst, true≢false, eqb-true}
use Rattle.std.specs.Prelude.{◌==◌, filter, not}
use Rattle.history.specs.History.{Entry, is_among}
use Rattle.history.specs.ListMachine.{Machine, Txn, Status, Open, Committing, Committed, Losing, Gone, Line, Begins, Acts, TellsAnswer, Reads, TellsRow, TellsRows, Saves, GoesBack, TellsBack, RollsBack, TellsRolledBack, Commits, TellsCommitted, Crashes, TellsLost, IsRefused, HasStatus, Survives, Step, with_txn, blank}
use Rattle.serial_laws.specs.Serial.{asked_on}
use Rattle.serial_laws.proofs.Listing.{among_none}
use Rattle.serial_laws.proofs.Changing.{at_txn}

-- it isn't open any more
abbrev pub IsClosed : Status → Type 0
IsClosed Committing = Unit {0}
IsClosed Committed = Unit {0}
IsClosed Losing = Unit {0}
IsClosed Gone = Unit {0}
IsClosed _ = ⊥

-- it asked, and hasn't fallen
abbrev pub IsDone : Status → Type 0
IsDone Committing = Unit {0}
IsDone Committed = Unit {0}
IsDone _ = ⊥

pub record HaveAsked (m : Machine) (ts : List ℕ) : Type 0 where
  pub closed : (t : ℕ) → is_among t ts ≡ true → IsClosed (m.txns t).status
  pub all : (t : ℕ) → IsDone (m.txns t).status → is_among t ts ≡ true

-- lists of numbers
pub out_of : (t u : ℕ) (ts : List ℕ) → is_among t (u ∷ ts) ≡ false → (u ≢ t) × (is_among t ts ≡ false)
out_of t u ts out = grind arith

abbrev pub without : ℕ → List ℕ → List ℕ
without u ts = filter (λ t. not (t == u)) ts

pub without_other : (t u : ℕ) (ts : List ℕ) → t ≢ u → is_among t (without u ts) ≡ is_among t ts
without_other t u [] apart = refl
without_other t u (v ∷ ts) apart = grind (arith, without_other t u ts apart, among_none, eqb-true)

pub without_itself : (u : ℕ) (ts : List ℕ) → is_among u (without u ts) ≡ false
without_itself u [] = refl
without_itself u (v ∷ ts) = grind (arith, without_itself u ts)

-- one transaction changes
asked_with : (m n : Machine) (u : ℕ) (x : Txn) (g : List Entry) (ts : List ℕ) → HaveAsked m ts
    → (is_among u ts ≡ true → IsClosed x.status) → (IsDone x.status → is_among u ts ≡ true)
    → n ≡ record (with_txn m u x) { h = g }
    → HaveAsked n ts
asked_with m n u x g ts have closed all is = grind (arith, nat_tests, at_txn)

-- one that is open
open_with : (m n : Machine) (u : ℕ) (s : Status) (x : Txn) (g : List Entry) (ts : List ℕ) → HaveAsked m ts
    → HasStatus m u s → (IsClosed s → ⊥) → (IsDone x.status → ⊥) → n ≡ record (with_txn m u x) { h = g }
    → HaveAsked n ts
open_with m n u s x g ts have at open_txn none is = grind (arith, nat_tests, asked_with)

-- what a crash makes of one is closed, and is done only if that was
crash_one : (m : Machine) (bound t : ℕ) (s : Status) (new : Txn) (b : Bool) → HasStatus m t s
    → Survives m bound t s new b → IsClosed new.status × (IsDone new.status → IsDone s)
crash_one m bound t s new b is h = grind arith

begins_asked : (m n : Machine) (u : ℕ) (ts : List ℕ) → HaveAsked m ts → n ≡ with_txn m u blank
    → HaveAsked n (without u ts)
begins_asked m n u ts have is = grind (arith, at_txn, true≢false, without_itself, without_other)

commits_asked : (m n : Machine) (u : ℕ) (ts : List ℕ) (x : Txn) → HaveAsked m ts → x.status ≡ Committing
    → n ≡ with_txn m u x → HaveAsked n (u ∷ ts)
commits_asked m n u ts x have at is = grind arith

pub asked_step : (m n : Machine) (line : Line) (ts : List ℕ) → Step m line n → HaveAsked m ts
    → HaveAsked n (asked_on ts line)
asked_step m n (Begins u) ts h have = begins_asked m n u ts have h.1
asked_step m n (Acts u o k) ts h have = open_with m n u Open _ m.h ts have h.0 (λ x. x) (λ x. x) h.4
asked_step m n (TellsAnswer u a) ts h have = open_with m n u _ _ _ ts have h.2 (λ x. x) (λ x. x) h.4
asked_step m n (Reads u q) ts h have = open_with m n u Open _ m.h ts have h.0 (λ x. x) (λ x. x) h.3
asked_step m n (TellsRow u value) ts h have = open_with m n u _ _ m.h ts have h.1 (λ x. x) (λ x. x) h.3
asked_step m n (TellsRows u rows) ts h have = open_with m n u _ _ m.h ts have h.2 (λ x. x) (λ x. x) h.4
asked_step m n (Saves u s) ts h have = grind (arith, open_with)
asked_step m n (GoesBack u s) ts h have = open_with m n u Open _ _ ts have h.1 (λ x. x) (λ x. x) h.4
asked_step m n (TellsBack u s) ts h have = open_with m n u _ _ m.h ts have h.0 (λ x. x) (λ x. x) h.1
asked_step m n (RollsBack u) ts h have = open_with m n u Open _ _ ts have h.0 (λ x. x) (λ x. x) h.1
asked_step m n (TellsRolledBack u) ts h have = open_with m n u _ _ m.h ts have h.0 (λ x. x) (λ x. x) h.1
asked_step m n (Commits u) ts h have = commits_asked m n u ts _ have refl h.1
asked_step m n (TellsCommitted u) ts h have = grind (arith, asked_with)
asked_step m n Crashes ts h have = grind (arith, crash_one)
asked_step m n (TellsLost u) ts h have = asked_with m n u _ m.h ts have (λ among. tt) (λ done. absurd done) h.1
asked_step m n (IsRefused call refusal) ts h have = subst (λ y. HaveAsked y ts) (sym h.1) have
