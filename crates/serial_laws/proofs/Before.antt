-- Who asked before another, and what these leave in turn.
use Rattle.std.proofs.lemmas.Grind.{common_steps}
use Rattle.std.proofs.Common.{arith, ◌≡◌, ◌≢◌, ℕ, Bool, true, false, List, [], ◌∷◌, ◌++◌, refl, sym, ap, ◌∙◌, true≢false, ne_eqb, eqb-true}
use Rattle.std.specs.Prelude.{if◌then◌else◌}
use Rattle.std.specs.List.{AllByRecursion}
use Rattle.std.proofs.lemmas.Bool.{cases_eq}
use Rattle.history.specs.History.{Entry, entries_of, is_among}
use Rattle.history.specs.ListMachine.{Line, Begins, Acts, TellsAnswer, Reads, TellsRow, TellsRows, Saves, GoesBack, TellsBack, RollsBack, TellsRolledBack, Commits, TellsCommitted, Crashes, TellsLost, IsRefused}
use Rattle.serial_laws.specs.Serial.{asked_on, asked_after, in_turn, before}
use Rattle.serial_laws.proofs.Listing.{among_there}
use Rattle.serial_laws.proofs.Asking.{out_of, without, without_other, without_itself}
use Rattle.serial_laws.proofs.Turning.{Ordered}

-- whoever hasn't asked comes after all
pub before_all : (t : ℕ) (ts : List ℕ) → is_among t ts ≡ false → before t ts ≡ ts
before_all t [] out = refl
before_all t (u ∷ ts) out =
    let apart = out_of t u ts out in
    ap (λ (b : Bool). if b then ts else (if is_among t ts then before t ts else u ∷ ts)) (ne_eqb u t apart.0)
    ∙ ap (λ (b : Bool). if b then before t ts else u ∷ ts) apart.1

pub before_among : (t v : ℕ) (ts : List ℕ) → is_among v (before t ts) ≡ true → is_among v ts ≡ true
before_among t v [] h = h
before_among t v (u ∷ ts) h = grind (arith, before_among t v ts, among_there)

pub before_not : (t : ℕ) (ts : List ℕ) (s : List Entry) → Ordered ts s → is_among t (before t ts) ≡ false
before_not t [] s ordered = refl
before_not t (u ∷ ts) s ordered = grind (arith, before_not t ts s ordered.2, eqb-true)

-- it asks itself
pub before_itself : (t : ℕ) (ts : List ℕ) → before t (t ∷ ts) ≡ ts
before_itself t h = grind arith

-- another asks
pub before_more : (t u : ℕ) (ts : List ℕ) → u ≢ t
    → before t (u ∷ ts) ≡ (if is_among t ts then before t ts else u ∷ ts)
before_more t h h2 apart = grind arith

-- another's number is given again
pub before_without : (t u : ℕ) (ts : List ℕ) → t ≢ u → before t (without u ts) ≡ without u (before t ts)
before_without t u [] apart = refl
before_without t u (v ∷ ts) apart =
    grind (arith, before_without t u ts apart, before_all, before_more, eqb-true, without_other)

pub without_among : (v u : ℕ) (ts : List ℕ) → is_among v (without u ts) ≡ true → (v ≢ u) × (is_among v ts ≡ true)
without_among v h h2 h3 = grind (arith, cases_eq, true≢false, without_itself, without_other)

-- what they leave in turn
pub own_none : (t : ℕ) (s : List Entry) → AllByRecursion (λ e. e.txn ≢ t) s → entries_of t s ≡ []
own_none t [] none = refl
own_none t (e ∷ s) none = grind (arith, own_none t s none.1, ne_eqb)

pub turn_without : (u : ℕ) (ts : List ℕ) (s : List Entry) → AllByRecursion (λ e. e.txn ≢ u) s
    → in_turn (without u ts) s ≡ in_turn ts s
turn_without u [] s none = refl
turn_without u (v ∷ ts) s none = grind (arith, turn_without u ts s none, eqb-true, own_none)

own_between : (t : ℕ) (e : Entry) (newer older : List Entry) → e.txn ≢ t
    → entries_of t (newer ++ e ∷ older) ≡ entries_of t (newer ++ older)
own_between t e newer older apart = grind (arith, common_steps, ne_eqb)

pub turn_between : (ts : List ℕ) (e : Entry) (newer older : List Entry) → is_among e.txn ts ≡ false
    → in_turn ts (newer ++ e ∷ older) ≡ in_turn ts (newer ++ older)
turn_between [] e newer older out = refl
turn_between (t ∷ ts) e newer older out =
    let apart = out_of e.txn t ts out in
    ap (λ x. x ++ in_turn ts (newer ++ e ∷ older)) (own_between t e newer older (λ same. apart.0 (sym same)))
    ∙ ap (λ x. entries_of t (newer ++ older) ++ x) (turn_between ts e newer older apart.1)

-- how a line changes who asked
pub data Asks (ts : List ℕ) (line : Line) : Type 0 where
  Calm : asked_on ts line ≡ ts → ((u : ℕ) → line ≢ Begins u) → Asks ts line
  Anew : (u : ℕ) → line ≡ Begins u → Asks ts line
  Last : (u : ℕ) → line ≡ Commits u → Asks ts line

pub asks : (ts : List ℕ) (line : Line) → Asks ts line
asks ts (Begins u) = Anew u refl
asks ts (Acts u o k) = Calm refl (λ v e. absurd (cc))
asks ts (TellsAnswer u a) = Calm refl (λ v e. absurd (cc))
asks ts (Reads u q) = Calm refl (λ v e. absurd (cc))
asks ts (TellsRow u value) = Calm refl (λ v e. absurd (cc))
asks ts (TellsRows u rows) = Calm refl (λ v e. absurd (cc))
asks ts (Saves u s) = Calm refl (λ v e. absurd (cc))
asks ts (GoesBack u s) = Calm refl (λ v e. absurd (cc))
asks ts (TellsBack u s) = Calm refl (λ v e. absurd (cc))
asks ts (RollsBack u) = Calm refl (λ v e. absurd (cc))
asks ts (TellsRolledBack u) = Calm refl (λ v e. absurd (cc))
asks ts (Commits u) = Last u refl
asks ts (TellsCommitted u) = Calm refl (λ v e. absurd (cc))
asks ts Crashes = Calm refl (λ v e. absurd (cc))
asks ts (TellsLost u) = Calm refl (λ v e. absurd (cc))
asks ts (IsRefused call refusal) = Calm refl (λ v e. absurd (cc))

pub asked_join : (ts : List ℕ) (lines more : List Line)
    → asked_after ts (lines ++ more) ≡ asked_after (asked_after ts lines) more
asked_join ts [] more = refl
asked_join ts (line ∷ lines) more = asked_join (asked_on ts line) lines more
