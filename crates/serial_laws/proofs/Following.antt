-- What a line makes of one transaction that doesn't begin.
use Rattle.std.proofs.Common.{arith, ◌≡◌, ◌≢◌, ℕ, Bool, List, sym, ap, inr}
use Rattle.history.specs.History.{Entry}
use Rattle.history.specs.Spans.{Span}
use Rattle.history.specs.ListMachine.{Machine, Txn, Status, Open, Committed, Line, Begins, Acts, TellsAnswer, Reads, TellsRow, TellsRows, Saves, GoesBack, TellsBack, RollsBack, TellsRolledBack, Commits, TellsCommitted, Crashes, TellsLost, IsRefused, HasStatus, Survives, Step, with_txn}
use Rattle.simulation.specs.View.{IsAmong}
use Rattle.serial_laws.specs.Serial.{MayCommit, Stands}
use Rattle.serial_laws.proofs.Changing.{at_txn}
use Rattle.serial_laws.proofs.Falling.{none_may}

-- it may commit only if it might, and lets nothing go; and it has committed only if it might, or had
pub record Follows (x y : Txn) : Type 0 where
  pub may : MayCommit y.status → MayCommit x.status
  pub holds : MayCommit y.status → (s : Span) → IsAmong s x.spans → IsAmong s y.spans
  pub done : y.status ≡ Committed → Stands x.status

pub follows_itself : (x : Txn) → Follows x x
follows_itself x = record { may = λ may. may; holds = λ may s among. among; done = λ is. inr is }

follows_with : (m n : Machine) (u : ℕ) (x : Txn) (g : List Entry) (t : ℕ) → (t ≡ u → Follows (m.txns u) x)
    → n ≡ record (with_txn m u x) { h = g }
    → Follows (m.txns t) (n.txns t)
follows_with m n u x g t one is = grind (arith, at_txn, follows_itself)

-- from a status in which it might
might : (m : Machine) (u : ℕ) (s : Status) (x : Txn) → HasStatus m u s → MayCommit s
    → ((r : Span) → IsAmong r (m.txns u).spans → IsAmong r x.spans)
    → Follows (m.txns u) x
might m u s x is may more = grind arith

-- or to one in which it can't
cannot : (x y : Txn) → (MayCommit y.status → ⊥) → (y.status ≡ Committed → Stands x.status) → Follows x y
cannot x y none done = record { may = λ may. absurd (none may); holds = λ may. absurd (none may); done = done }

crash_done : (m : Machine) (bound t : ℕ) (s : Status) (new : Txn) (fell : Bool) → HasStatus m t s
    → Survives m bound t s new fell → new.status ≡ Committed → Stands (m.txns t).status
crash_done m bound t s new fell at h is = grind arith

pub follows : (m n : Machine) (line : Line) (t : ℕ) → Step m line n → line ≢ Begins t
    → Follows (m.txns t) (n.txns t)
follows m n (Begins u) t h anew = follows_with m n u _ m.h t (λ e. absurd (anew (ap Begins (sym e)))) h.1
follows m n (Acts u o k) t h anew = follows_with m n u _ m.h t (λ e. might m u Open _ h.0 tt (λ r among. inr among)) h.4
follows m n (TellsAnswer u a) t h anew = follows_with m n u _ _ t (λ e. might m u _ _ h.2 tt (λ r among. among)) h.4
follows m n (Reads u q) t h anew = follows_with m n u _ m.h t (λ e. might m u Open _ h.0 tt (λ r among. inr among)) h.3
follows m n (TellsRow u value) t h anew = follows_with m n u _ m.h t (λ e. might m u _ _ h.1 tt (λ r among. among)) h.3
follows m n (TellsRows u rows) t h anew = follows_with m n u _ m.h t (λ e. might m u _ _ h.2 tt (λ r among. among)) h.4
follows m n (Saves u s) t h anew = follows_with m n u _ m.h t (λ e. might m u Open _ h.0 tt (λ r among. among)) h.3
follows m n (GoesBack u s) t h anew = follows_with m n u _ _ t (λ e. might m u Open _ h.1 tt (λ r among. among)) h.4
follows m n (TellsBack u s) t h anew = follows_with m n u _ m.h t (λ e. might m u _ _ h.0 tt (λ r among. among)) h.1
follows m n (RollsBack u) t h anew = follows_with m n u _ _ t (λ e. cannot _ _ (λ x. x) (λ is. absurd (cc))) h.1
follows m n (TellsRolledBack u) t h anew = follows_with m n u _ m.h t (λ e. cannot _ _ (λ x. x) (λ is. absurd (cc))) h.1
follows m n (Commits u) t h anew = follows_with m n u _ m.h t (λ e. might m u Open _ h.0 tt (λ r among. among)) h.1
follows m n (TellsCommitted u) t h anew = grind (arith, follows_with, cannot)
follows m n Crashes t h anew = grind (arith, cannot, none_may, crash_done)
follows m n (TellsLost u) t h anew = follows_with m n u _ m.h t (λ e. cannot _ _ (λ x. x) (λ is. absurd (cc))) h.1
follows m n (IsRefused call refusal) t h anew = grind (arith, follows_itself)

pub stood : (x y : Txn) → Follows x y → Stands y.status → Stands x.status
stood x y f h = grind arith
