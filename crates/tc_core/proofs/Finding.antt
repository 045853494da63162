-- Open transactions by their numbers: what is found after one is put in another's place, or goes.
use Rattle.std.proofs.Common.{◌≡◌, ◌≢◌, ℕ, ◌<◌, ◌≤◌, suc, Bool, true, false, List, [], ◌∷◌, length, ◌⊎◌, Option, Some, None, refl, sym, ap, ◌∙◌, subst, arith, inl, inr, true≢false, eq-eqb, ne_eqb, eqb-true}
use Rattle.std.specs.Prelude.{◌==◌, if◌then◌else◌}
use Rattle.tc_core.specs.declared.open_txn.OpenTxn.{OpenTxn}
use Rattle.tc_core.specs.OpenTxns.{find, replace, without, AreBelow, AreFalling, unless, oldest}

found_if : (b : Bool) (p o : OpenTxn) (other : Option OpenTxn) → (if b then Some p else other) ≡ Some o
    → ((b ≡ true) × (p ≡ o)) ⊎ ((b ≡ false) × (other ≡ Some o))
found_if true p o other h = inl (refl, (cc))
found_if false p o other h = inr (refl, h)

-- it has the number that was looked for
pub found_number : (t : ℕ) (os : List OpenTxn) (o : OpenTxn) → find t os ≡ Some o → o.txn ≡ t
found_number t [] o h = absurd (cc)
found_number t (p ∷ os) o h = elim (found_if (p.txn == t) p o (find t os) h) [
  | inl here ↦ sym (ap (λ (x : OpenTxn). x.txn) here.1) ∙ eqb-true p.txn t here.0
  | inr there ↦ found_number t os o there.1
]

-- so it is found by its own number
pub found_own : (t : ℕ) (os : List OpenTxn) (o : OpenTxn) → find t os ≡ Some o → find o.txn os ≡ Some o
found_own t os o h = let P : ℕ → Type 0 = λ u. find u os ≡ Some o in subst P (sym (found_number t os o h)) h

-- the first of a list
pub find_here : (o : OpenTxn) (os : List OpenTxn) (t : ℕ) → o.txn ≡ t → find t (o ∷ os) ≡ Some o
find_here o os t same = ap (λ b. if b then Some o else find t os) (eq-eqb o.txn t same)

pub find_there : (o : OpenTxn) (os : List OpenTxn) (t : ℕ) → o.txn ≢ t → find t (o ∷ os) ≡ find t os
find_there o os t apart = ap (λ b. if b then Some o else find t os) (ne_eqb o.txn t apart)

-- where all numbers are below, none is found
pub find_above : (t : ℕ) (os : List OpenTxn) → AreBelow t os → find t os ≡ None
find_above t [] below = refl
find_above t (o ∷ os) below = find_there o os t (λ e. omega (arith, e, below.0)) ∙ find_above t os below.1

-- with another in its place
pub replaced_other : (new : OpenTxn) (os : List OpenTxn) (t : ℕ) → t ≢ new.txn → find t (replace new os) ≡ find t os
replaced_other new [] t apart = refl
replaced_other new (o ∷ os) t apart = pick (replaced_other new os t apart) (o.txn == new.txn) refl
  where
    pick : find t (replace new os) ≡ find t os → (b : Bool) → (o.txn == new.txn) ≡ b
        → find t ((if b then new else o) ∷ replace new os) ≡ find t (o ∷ os)
    pick rest true same =
        find_there new (replace new os) t (λ e. apart (sym e)) ∙ rest
        ∙ sym (find_there o os t (λ e. apart (sym e ∙ eqb-true o.txn new.txn same)))
    pick rest false other = ap (λ x. if o.txn == t then Some o else x) rest

pub replaced_same : (new o : OpenTxn) (os : List OpenTxn) → find new.txn os ≡ Some o
    → find new.txn (replace new os) ≡ Some new
replaced_same new o [] h = absurd (cc)
replaced_same new o (p ∷ os) h = pick (replaced_same new o os) (p.txn == new.txn) refl
  where
    pick : (find new.txn os ≡ Some o → find new.txn (replace new os) ≡ Some new) → (b : Bool) → (p.txn == new.txn) ≡ b
        → find new.txn ((if b then new else p) ∷ replace new os) ≡ Some new
    pick rest true same = find_here new (replace new os) new.txn refl
    pick rest false other =
        let apart : p.txn ≢ new.txn = λ e. true≢false (sym (eq-eqb p.txn new.txn e) ∙ other) in
        find_there p (replace new os) new.txn apart ∙ rest (sym (find_there p os new.txn apart) ∙ h)

pub replaced_length : (new : OpenTxn) (os : List OpenTxn) → length (replace new os) ≡ length os
replaced_length new [] = refl
replaced_length new (o ∷ os) = ap suc (replaced_length new os)

replaced_below : (new : OpenTxn) (os : List OpenTxn) (t : ℕ) → AreBelow t os → AreBelow t (replace new os)
replaced_below new [] t below = tt
replaced_below new (o ∷ os) t below = (pick (o.txn == new.txn) refl, replaced_below new os t below.1)
  where
    pick : (b : Bool) → (o.txn == new.txn) ≡ b → (if b then new else o).txn < t
    pick true same = omega (arith, eqb-true o.txn new.txn same, below.0)
    pick false other = below.0

pub replaced_falls : (new : OpenTxn) (os : List OpenTxn) → AreFalling os → AreFalling (replace new os)
replaced_falls new [] falls = tt
replaced_falls new (o ∷ os) falls = (pick (o.txn == new.txn) refl, replaced_falls new os falls.1)
  where
    pick : (b : Bool) → (o.txn == new.txn) ≡ b → AreBelow (if b then new else o).txn (replace new os)
    pick true same = let P : ℕ → Type 0 = λ t. AreBelow t (replace new os) in
        subst P (eqb-true o.txn new.txn same) (replaced_below new os o.txn falls.0)
    pick false other = replaced_below new os o.txn falls.0

-- without one
pub without_same : (t : ℕ) (os : List OpenTxn) → find t (without t os) ≡ None
without_same t [] = refl
without_same t (o ∷ os) = pick (without_same t os) (o.txn == t) refl
  where
    pick : find t (without t os) ≡ None → (b : Bool) → (o.txn == t) ≡ b
        → find t (if b then without t os else o ∷ without t os) ≡ None
    pick rest true same = rest
    pick rest false other = find_there o (without t os) t (λ e. true≢false (sym (eq-eqb o.txn t e) ∙ other)) ∙ rest

pub without_other : (t : ℕ) (os : List OpenTxn) (u : ℕ) → u ≢ t → find u (without t os) ≡ find u os
without_other t [] u apart = refl
without_other t (o ∷ os) u apart = pick (without_other t os u apart) (o.txn == t) refl
  where
    pick : find u (without t os) ≡ find u os → (b : Bool) → (o.txn == t) ≡ b
        → find u (if b then without t os else o ∷ without t os) ≡ find u (o ∷ os)
    pick rest true same = rest ∙ sym (find_there o os u (λ e. apart (sym e ∙ eqb-true o.txn t same)))
    pick rest false other = ap (λ x. if o.txn == u then Some o else x) rest

without_below : (t : ℕ) (os : List OpenTxn) (u : ℕ) → AreBelow u os → AreBelow u (without t os)
without_below t [] u below = tt
without_below t (o ∷ os) u below = pick (without_below t os u below.1) (o.txn == t)
  where
    pick : AreBelow u (without t os) → (b : Bool) → AreBelow u (if b then without t os else o ∷ without t os)
    pick rest true = rest
    pick rest false = (below.0, rest)

pub without_falls : (t : ℕ) (os : List OpenTxn) → AreFalling os → AreFalling (without t os)
without_falls t [] falls = tt
without_falls t (o ∷ os) falls = pick (without_falls t os falls.1) (o.txn == t)
  where
    pick : AreFalling (without t os) → (b : Bool) → AreFalling (if b then without t os else o ∷ without t os)
    pick rest true = rest
    pick rest false = (without_below t os o.txn falls.0, rest)

pub without_length : (t : ℕ) (os : List OpenTxn) → length (without t os) ≤ length os
without_length t [] = omega arith
without_length t (o ∷ os) = pick (without_length t os) (o.txn == t)
  where
    pick : length (without t os) ≤ length os → (b : Bool)
        → length (if b then without t os else o ∷ without t os) ≤ length (o ∷ os)
    pick rest true = omega (arith, rest)
    pick rest false = omega (arith, rest)

-- one above all others, added and then removed
without_above : (t : ℕ) (os : List OpenTxn) → AreBelow t os → without t os ≡ os
without_above t [] below = refl
without_above t (o ∷ os) below =
    ap (λ b. if b then without t os else o ∷ without t os) (ne_eqb o.txn t (λ e. omega (arith, e, below.0)))
    ∙ ap (λ (xs : List OpenTxn). o ∷ xs) (without_above t os below.1)

pub without_new : (new : OpenTxn) (os : List OpenTxn) → AreBelow new.txn os → without new.txn (new ∷ os) ≡ os
without_new new os below =
    ap (λ b. if b then without new.txn os else new ∷ without new.txn os) (eq-eqb new.txn new.txn refl)
    ∙ without_above new.txn os below

-- the one with the least number
found_below : (os : List OpenTxn) (bound u : ℕ) (p : OpenTxn) → AreBelow bound os → find u os ≡ Some p → u < bound
found_below [] bound u p below h = absurd (cc)
found_below (o ∷ os) bound u p below h = elim (found_if (o.txn == u) o p (find u os) h) [
  | inl here ↦ omega (arith, eqb-true o.txn u here.0, below.0)
  | inr there ↦ found_below os bound u p below.1 there.1
]

pub record IsOldest (test : OpenTxn → Bool) (os : List OpenTxn) (o : OpenTxn) : Type 0 where
  pub found : find o.txn os ≡ Some o
  pub passes : test o ≡ true
  pub least : (u : ℕ) (p : OpenTxn) → find u os ≡ Some p → test p ≡ true → o.txn ≤ u

pub oldest_none : (test : OpenTxn → Bool) (os : List OpenTxn) → oldest test os ≡ None → (u : ℕ) (p : OpenTxn)
    → find u os ≡ Some p → test p ≡ false
oldest_none test [] none u p h = absurd (cc)
oldest_none test (o ∷ os) none u p h =
    pick (λ is there. oldest_none test os is u p there) (oldest test os) refl (test o) refl none
  where
    pick : (oldest test os ≡ None → find u os ≡ Some p → test p ≡ false) → (rest : Option OpenTxn)
        → oldest test os ≡ rest → (b : Bool) → test o ≡ b → unless rest (if b then Some o else None) ≡ None
        → test p ≡ false
    pick older (Some q) is b passes e = absurd (cc)
    pick older None is true passes e = absurd (cc)
    pick older None is false passes e = elim (found_if (o.txn == u) o p (find u os) h) [
      | inl here ↦ ap test (sym here.1) ∙ passes
      | inr there ↦ older is there.1
    ]

pub oldest_found : (test : OpenTxn → Bool) (os : List OpenTxn) (o : OpenTxn) → AreFalling os → oldest test os ≡ Some o
    → IsOldest test os o
oldest_found test [] o falls h = absurd (cc)
oldest_found test (p ∷ os) o falls h = pick (oldest_found test os o falls.1) (oldest test os) refl (test p) refl h
  where
    pick : (oldest test os ≡ Some o → IsOldest test os o) → (rest : Option OpenTxn) → oldest test os ≡ rest
        → (b : Bool) → test p ≡ b → unless rest (if b then Some p else None) ≡ Some o → IsOldest test (p ∷ os) o
    pick rest_found (Some q) is b passes e =
        let older : IsOldest test os o = rest_found (is ∙ e) in
        let below : o.txn < p.txn = found_below os p.txn o.txn o falls.0 older.found in
        record {
          found = find_there p os o.txn (λ same. omega (arith, same, below)) ∙ older.found;
          passes = older.passes;
          least = λ u q found passes. elim (found_if (p.txn == u) p q (find u os) found) [
            | inl here ↦ omega (arith, eqb-true p.txn u here.0, below)
            | inr there ↦ older.least u q there.1 passes
          ];
        }
    pick rest_found None is true passes e =
        let same : p ≡ o = cc in
        let P : OpenTxn → Type 0 = λ x. IsOldest test (p ∷ os) x in
        subst P same (record {
          found = find_here p os p.txn refl;
          passes = passes;
          least = λ u q found test_q. elim (found_if (p.txn == u) p q (find u os) found) [
            | inl here ↦ omega (arith, eqb-true p.txn u here.0)
            | inr there ↦ absurd (true≢false (sym test_q ∙ oldest_none test os is u q there.1))
          ];
        })
    pick rest_found None is false passes e = absurd (cc)
