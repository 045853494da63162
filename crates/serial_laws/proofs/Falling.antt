-- What a crash of the component leaves of all this.
use Rattle.std.proofs.Common.{arith, ◌≡◌, ℕ, ◌≤◌, Bool, true, false, List, [], ◌∷◌, refl, sym, ap, ◌∙◌, subst, inl, inr, ◌⊎◌, true≢false}
use Rattle.std.specs.Prelude.{◌&&◌, filter, not, nat_lt}
use Rattle.std.specs.List.{AllByRecursion}
use Rattle.std.specs.FinMap.{empty}
use Rattle.record_key.proofs.Lists.{all_from}
use Rattle.history.specs.History.{Entry}
use Rattle.history.specs.ListMachine.{Machine, Txn, Status, Committed, Crashes, HasStatus, AreAllLeft, Survives, Step}
use Rattle.simulation.specs.View.{standing}
use Rattle.simulation.proofs.Entries.{all_filtered, uncross_fallen}
use Rattle.serial_laws.specs.Replay.{AreTrue}
use Rattle.serial_laws.specs.Serial.{MayCommit}
use Rattle.serial_laws.proofs.Passing.{Sinks, true_left}
use Rattle.serial_laws.proofs.Listing.{all_two, all_true, pairs_all, pairs_with, passed, and_parts, not_true}
use Rattle.serial_laws.proofs.Keeping.{IsOwned, IsOlder, IsKept, nothing_awaited}

-- nobody may commit that a crash met
pub none_may : (m : Machine) (bound t : ℕ) (s : Status) (new : Txn) (fell : Bool) → HasStatus m t s
    → Survives m bound t s new fell → MayCommit new.status → ⊥
none_may m bound t s new fell is h h2 = grind arith

-- who doesn't fall and had entries that stood has committed, and has all of them
pub record HasCome (m : Machine) (bound t : ℕ) (new : Txn) : Type 0 where
  pub begun : new.begun ≡ true
  pub status : new.status ≡ Committed
  pub left : AreAllLeft bound t m.h

-- and whoever falls might have committed
pub who_falls : (m : Machine) (bound t : ℕ) (s : Status) (new : Txn) (fell : Bool)
    → Survives m bound t s new fell → (s ≡ Committed) ⊎ MayCommit s → fell ≡ true → MayCommit s
who_falls m bound t s new fell h h2 falls = grind arith

module _ (m n : Machine) (h : Step m Crashes n) (kept : IsKept m) where
  abbrev pub left : Entry → Bool
  left e = not (nat_lt (h.1) e.number) && not (h.0 e.txn)

  -- an entry that stood, and what the crash makes of it
  record IsMet (e : Entry) : Type 0 where
    owned : IsOwned m e
    within : h.0 e.txn ≡ false → e.number ≤ h.1

  owner : (e : Entry) → IsOwned m e → ((m.txns e.txn).status ≡ Committed) ⊎ MayCommit (m.txns e.txn).status
  owner e owned = elim (owned.1) [ inl c ↦ inl c | inr holds ↦ inr holds.0 ]

  comes : (e : Entry) → IsOwned m e → h.0 e.txn ≡ false → HasCome m h.1 e.txn (n.txns e.txn)
  comes e owned stays = grind arith

  met : (s : List Entry) → ((e : Entry) → IsOwned m e → h.0 e.txn ≡ false → AreAllLeft h.1 e.txn s)
      → AllByRecursion (IsOwned m) s → AllByRecursion IsMet s
  met [] all owned = tt
  met (e ∷ s) all owned = (
    record { owned = owned.0; within = λ stays. (all e owned.0 stays).0 refl },
    met s (λ f own stays. (all f own stays).1) owned.1,
  )

  all_met : AllByRecursion IsMet (standing m.h)
  all_met = grind (arith, met, all_filtered, comes)

  falls : (e : Entry) → IsMet e → left e ≡ false → h.0 e.txn ≡ true
  falls e is out = grind arith

  sinks : (g e : Entry) → IsMet g → IsMet e → IsOlder m g e → Sinks left g e
  sinks g e is_g is_e older stays out = grind (arith, falls, not_true, and_parts, who_falls, owner, true≢false)

  pub now : standing n.h ≡ filter left (standing m.h)
  now = ap standing h.3 ∙ uncross_fallen h.0 h.1 m.h

  -- whoever's entries go might have committed
  pub dropped : AllByRecursion (λ e. left e ≡ false → MayCommit (m.txns e.txn).status) (standing m.h)
  dropped = grind (arith, all_from, who_falls, owner, falls, all_met)

  owns_now : (e : Entry) → IsMet e → left e ≡ true → IsOwned n e
  owns_now e is stays = grind (arith, comes, not_true, and_parts)

  none : (t : ℕ) → MayCommit (n.txns t).status → ⊥
  none t = none_may m h.1 t (m.txns t).status (n.txns t) (h.0 t) refl (h.2 t)

  pub kept_crash : IsKept n
  kept_crash = record {
    told = subst (AreTrue empty) (sym now) (true_left empty left (standing m.h)
        (pairs_with IsMet (IsOlder m) (Sinks left) (standing m.h) sinks all_met kept.older) kept.told);
    owned = subst (AllByRecursion (IsOwned n)) (sym now)
        (all_two IsMet (λ e. left e ≡ true) (IsOwned n) (filter left (standing m.h)) owns_now
        (all_filtered IsMet left (standing m.h) all_met) (passed left (standing m.h)));
    older = pairs_all (λ _. Unit {0}) (IsOlder n) (standing n.h) (λ g e x y may. absurd (none e.txn may))
        (all_true (λ _. Unit {0}) (standing n.h) (λ _. tt));
    apart = λ t u other may. absurd (none t may);
    each = λ t. record {
      begun = λ may. absurd (none t may);
      waits = nothing_awaited (standing n.h) t (n.txns t).spans (n.txns t).saves (n.txns t).status (none t);
      saved = λ may. absurd (none t may);
    };
  }
