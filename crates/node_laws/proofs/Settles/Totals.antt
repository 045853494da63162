-- Sums over the open transactions: after one is put in another's place, or goes.
use Rattle.std.proofs.Common.{◌≡◌, ◌≢◌, ◌⊎◌, ℕ, ◌+◌, ◌≤◌, Bool, true, false, List, [], ◌∷◌, Some, None, refl, sym, ap, ◌∙◌, subst, arith, inl, inr, eq-eqb, ne_eqb}
use Rattle.std.specs.Prelude.{◌==◌}
use Rattle.std.specs.List.{list_any}
use Rattle.std.proofs.Math.Bool.{or-true}
use Rattle.std.proofs.lemmas.Bool.{cases_eq}
use Rattle.tc_core.specs.declared.open_txn.OpenTxn.{OpenTxn}
use Rattle.tc_core.specs.OpenTxns.{find, replace, without, AreBelow, AreFalling}
use Rattle.tc_core.proofs.Finding.{find_here, find_there, find_above}
use Rattle.node_laws.specs.Bound.{total}

-- one of the later ones has another number than the first
found_later : (p : OpenTxn) (os : List OpenTxn) (t : ℕ) (o : OpenTxn) → AreBelow p.txn os → find t os ≡ Some o
    → p.txn ≢ t
found_later p os t o below h same = let none : None ≡ Some o =
    sym (find_above p.txn os below) ∙ ap (λ (u : ℕ). find u os) same ∙ h in cc

-- so it is found among all
pub found_still : (p : OpenTxn) (os : List OpenTxn) (t : ℕ) (o : OpenTxn) → AreBelow p.txn os → find t os ≡ Some o
    → find t (p ∷ os) ≡ Some o
found_still p os t o below h = find_there p os t (found_later p os t o below h) ∙ h

-- one that is found is the first, or a later one
found_where : (p : OpenTxn) (os : List OpenTxn) (t : ℕ) (o : OpenTxn) → find t (p ∷ os) ≡ Some o
    → ((p.txn ≡ t) × (p ≡ o)) ⊎ ((p.txn ≢ t) × (find t os ≡ Some o))
found_where p os t o h = elim (cases_eq p.txn t) [
  | inl same ↦ let e : Some p ≡ Some o = sym (find_here p os t same) ∙ h in inl (same, (cc))
  | inr apart ↦ inr (apart, sym (find_there p os t apart) ∙ h)
]

-- where each count is at most the other
pub total_most : (a b : OpenTxn → ℕ) (os : List OpenTxn) → ((o : OpenTxn) → a o ≤ b o) → total a os ≤ total b os
total_most a b [] most = omega arith
total_most a b (o ∷ os) most = omega (arith, most o, total_most a b os most)

-- a sum of two counts
pub total_sum : (a b : OpenTxn → ℕ) (os : List OpenTxn) → total (λ o. a o + b o) os ≡ total a os + total b os
total_sum a b [] = refl
total_sum a b (o ∷ os) = let rest = total_sum a b os in omega (arith, rest)

-- nobody has a number that all are below
total_absent : (count : OpenTxn → ℕ) (new : OpenTxn) (os : List OpenTxn) → AreBelow new.txn os
    → (total count (replace new os) ≡ total count os) × (total count (without new.txn os) ≡ total count os)
total_absent count new [] below = (refl, refl)
total_absent count new (p ∷ os) below =
    let rest = total_absent count new os below.1 in
    let apart : (p.txn == new.txn) ≡ false = ne_eqb p.txn new.txn (λ e. omega (arith, e, below.0)) in
    rw (apart, rest.0, rest.1) (refl, refl)

-- one in another's place
pub total_replaced : (count : OpenTxn → ℕ) (new o : OpenTxn) (os : List OpenTxn) → AreFalling os
    → find new.txn os ≡ Some o → total count (replace new os) + count o ≡ total count os + count new
total_replaced count new o [] falls h = absurd (cc)
total_replaced count new o (p ∷ os) falls h = elim (found_where p os new.txn o h) [
  | inl here ↦
      let P : ℕ → Type 0 = λ t. AreBelow t os in
      let rest = (total_absent count new os (subst P here.0 falls.0)).0 in
      rw (eq-eqb p.txn new.txn here.0) (omega (arith, rest, ap count here.1))
  | inr there ↦ let rest = total_replaced count new o os falls.1 there.1 in
      rw (ne_eqb p.txn new.txn there.0) (omega (arith, rest))
]

-- without one
pub total_without : (count : OpenTxn → ℕ) (o : OpenTxn) (os : List OpenTxn) → AreFalling os → find o.txn os ≡ Some o
    → total count (without o.txn os) + count o ≡ total count os
total_without count o [] falls h = absurd (cc)
total_without count o (p ∷ os) falls h = elim (found_where p os o.txn o h) [
  | inl here ↦
      let P : ℕ → Type 0 = λ t. AreBelow t os in
      let rest = (total_absent count o os (subst P here.0 falls.0)).1 in
      rw (eq-eqb p.txn o.txn here.0) (omega (arith, rest, ap count here.1))
  | inr there ↦ let rest = total_without count o os falls.1 there.1 in
      rw (ne_eqb p.txn o.txn there.0) (omega (arith, rest))
]

-- one count falls, and the others don't grow
pub total_one : (now was : OpenTxn → ℕ) (o : OpenTxn) (os : List OpenTxn) → AreFalling os → find o.txn os ≡ Some o
    → ((p : OpenTxn) → now p ≤ was p) → total now os + was o ≤ total was os + now o
total_one now was o os falls h most =
    omega (
      arith,
      total_without now o os falls h,
      total_without was o os falls h,
      total_most now was (without o.txn os) most,
    )

-- a step of one of them, where the counts of the others don't grow
pub total_step : (now was : OpenTxn → ℕ) (new o : OpenTxn) (os : List OpenTxn) → AreFalling os
    → find o.txn os ≡ Some o → new.txn ≡ o.txn → ((p : OpenTxn) → now p ≤ was p)
    → total now (replace new os) + was o ≤ total was os + now new
total_step now was new o os falls h same most =
    let P : ℕ → Type 0 = λ t. find t os ≡ Some o in
    let replaced = total_replaced now new o os falls (subst P (sym same) h) in
    omega (
      arith,
      replaced,
      total_without now o os falls h,
      total_without was o os falls h,
      total_most now was (without o.txn os) most,
    )

-- an end of one of them
pub total_end : (now was : OpenTxn → ℕ) (o : OpenTxn) (os : List OpenTxn) → AreFalling os → find o.txn os ≡ Some o
    → ((p : OpenTxn) → now p ≤ was p) → total now (without o.txn os) + was o ≤ total was os
total_end now was o os falls h most =
    omega (arith, total_without was o os falls h, total_most now was (without o.txn os) most)

-- one that is found has its share
pub total_share : (count : OpenTxn → ℕ) (o : OpenTxn) (os : List OpenTxn) → AreFalling os → find o.txn os ≡ Some o
    → count o ≤ total count os
total_share count o os falls h = omega (arith, total_without count o os falls h)

-- somebody passes the test
pub any_found : (test : OpenTxn → Bool) (os : List OpenTxn) (t : ℕ) (o : OpenTxn) → find t os ≡ Some o → test o ≡ true
    → list_any test os ≡ true
any_found test [] t o h passes = absurd (cc)
any_found test (p ∷ os) t o h passes = elim (found_where p os t o h) [
  | inl here ↦ rw (here.1, passes) refl
  | inr there ↦ rw (any_found test os t o there.1 passes) (or-true (test p))
]

-- nobody does
pub none_found : (test : OpenTxn → Bool) (os : List OpenTxn) → AreFalling os
    → ((t : ℕ) (o : OpenTxn) → find t os ≡ Some o → test o ≡ false) → list_any test os ≡ false
none_found test [] falls none = refl
none_found test (p ∷ os) falls none =
    rw (none p.txn p (find_here p os p.txn refl))
    (none_found test os falls.1 (λ t o h. none t o (found_still p os t o falls.0 h)))
