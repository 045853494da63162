-- The transactions whose Commit isn't stable.
use Rattle.std.proofs.Common.{◌≡◌, ℕ, ◌+◌, ◌≤◌, Bool, true, false, List, [], ◌∷◌, ◌++◌, length, Some, is_some, refl, sym, ap, ◌∙◌, subst, arith, inl, inr, true≢false, eq-eqb, ne_eqb, eqb-true}
use Rattle.std.specs.Prelude.{◌||◌, ◌==◌, nat_lt, if◌then◌else◌}
use Rattle.std.proofs.lemmas.Bool.{cases_eq, cases_Bool, or_cases}
use Rattle.std.proofs.lemmas.Bool.Decides.{nat_tests}
use Rattle.std.proofs.Math.Bool.{or-true, or-false}
use Rattle.std.proofs.lemmas.List.Folds.{list_any-append}
use Rattle.history.specs.declared.record.Record.{Record}
use Rattle.history.specs.declared.record.Record.TheVariants as is
use Rattle.history.specs.Log.{has_ended}
use Rattle.tc_core.specs.declared.open_txn.OpenTxn.{OpenTxn}
use Rattle.tc_core.specs.OpenTxns.{find, without}
use Rattle.tc_core.specs.Locking.{is_listed, is_holder}
use Rattle.tc_core.specs.Kept.{commits_in}
use Rattle.tc_core.proofs.Finding.{without_same, without_other}

-- one that is put at the end is listed, and each other as before
pub listed_last : (ts : List ℕ) (t u : ℕ) → is_listed (ts ++ t ∷ []) u ≡ (is_listed ts u || (t == u))
listed_last ts t u = list_any-append (λ v. v == u) ts (t ∷ []) ∙ ap (λ b. is_listed ts u || b) (or-false (t == u))

-- where all records are stable nobody is committing
pub none_committing : (log : List Record) (stable : ℕ) → length log ≤ stable → commits_in log stable ≡ []
none_committing [] stable all = refl
none_committing (is.Commit t ∷ log) stable all =
    let no : nat_lt stable (length log + 1) ≡ false = grind (arith, nat_tests, all) in
    ap (λ b. if b then commits_in log stable ++ t ∷ [] else []) no
none_committing (r ∷ log) stable all = none_committing log stable (omega (arith, all))

-- who is committing has ended
ended_if : (b : Bool) (t u : ℕ) (ts : List ℕ) (was : Bool) → (is_listed ts u ≡ true → was ≡ true)
    → is_listed (if b then ts ++ t ∷ [] else []) u ≡ true → ((u == t) || was) ≡ true
ended_if false t u ts was rest h = absurd (cc)
ended_if true t u ts was rest h =
    elim (or_cases (is_listed ts u) (t == u) (sym (listed_last ts t u) ∙ h)) [
      | inl before ↦ ap (λ b. (u == t) || b) (rest before) ∙ or-true (u == t)
      | inr last ↦ ap (λ b. b || was) (eq-eqb u t (sym (eqb-true t u last)))
    ]

pub committing_ended : (log : List Record) (stable u : ℕ) → is_listed (commits_in log stable) u ≡ true
    → has_ended log u ≡ true
committing_ended [] stable u h = absurd (cc)
committing_ended (is.Commit t ∷ log) stable u h =
    ended_if (nat_lt stable (length log + 1)) t u (commits_in log stable) (has_ended log u)
    (committing_ended log stable u) h
committing_ended (is.End t ∷ log) stable u h =
    ap (λ b. (u == t) || b) (committing_ended log stable u h) ∙ or-true (u == t)
committing_ended (r ∷ log) stable u h = committing_ended log stable u h

-- so nobody who is open is committing
pub open_unlisted : (log : List Record) (stable t : ℕ) → has_ended log t ≡ false
    → is_listed (commits_in log stable) t ≡ false
open_unlisted log stable t goes_on =
    elim (cases_Bool (is_listed (commits_in log stable) t)) [
      | inl listed ↦ absurd (true≢false (sym (committing_ended log stable t listed) ∙ goes_on))
      | inr unlisted ↦ unlisted
    ]

-- a Commit that was just logged isn't stable
pub commits_more : (log : List Record) (stable t : ℕ) → stable ≤ length log
    → commits_in (is.Commit t ∷ log) stable ≡ commits_in log stable ++ t ∷ []
commits_more log stable t within =
    let above : nat_lt stable (length log + 1) ≡ true = grind (arith, nat_tests, within) in
    ap (λ b. if b then commits_in log stable ++ t ∷ [] else []) above

-- one that commits holds what it held, and so does each other
holder_committed : (os : List OpenTxn) (cs : List ℕ) (t : ℕ) (o : OpenTxn) → find t os ≡ Some o → (u : ℕ)
    → is_holder (without t os) (cs ++ t ∷ []) u ≡ is_holder os cs u
holder_committed os cs t o at u =
    elim (cases_eq u t) [
      | inl same ↦
          let P : ℕ → Type 0 = λ n. is_holder (without t os) (cs ++ t ∷ []) n ≡ is_holder os cs n in
          let listed : is_listed (cs ++ t ∷ []) t ≡ true =
          listed_last cs t t ∙ ap (λ b. is_listed cs t || b) (eq-eqb t t refl) ∙ or-true (is_listed cs t) in
          subst P (sym same) (rw (without_same t os, listed, at) refl)
      | inr other ↦
          let listed : is_listed (cs ++ t ∷ []) u ≡ is_listed cs u =
          listed_last cs t u ∙ ap (λ b. is_listed cs u || b) (ne_eqb t u (λ e. other (sym e)))
          ∙ or-false (is_listed cs u) in
          rw (without_other t os u other, listed) refl
    ]

-- the same with more who hold
pub holder_more : (os : List OpenTxn) (cs ls : List ℕ) (u : ℕ)
    → is_holder os (cs ++ ls) u ≡ (is_holder os cs u || is_listed ls u)
holder_more os cs ls u =
    pick (is_some (find u os)) (is_listed cs u) (is_listed (cs ++ ls) u) (list_any-append (λ v. v == u) cs ls)
  where
    pick : (a b c : Bool) → c ≡ (b || is_listed ls u) → (a || c) ≡ ((a || b) || is_listed ls u)
    pick true b c e = refl
    pick false b c e = e

pub holder_closing : (os : List OpenTxn) (cs ls : List ℕ) (t : ℕ) (o : OpenTxn) → find t os ≡ Some o → (u : ℕ)
    → is_holder (without t os) ((cs ++ t ∷ []) ++ ls) u ≡ is_holder os (cs ++ ls) u
holder_closing os cs ls t o at u =
    holder_more (without t os) (cs ++ t ∷ []) ls u ∙ ap (λ b. b || is_listed ls u) (holder_committed os cs t o at u)
    ∙ sym (holder_more os cs ls u)

-- and where the same are losers
pub holder_alike : (os : List OpenTxn) (cs ls ls2 : List ℕ) (u : ℕ) → is_listed ls2 u ≡ is_listed ls u
    → is_holder os (cs ++ ls2) u ≡ is_holder os (cs ++ ls) u
holder_alike os cs ls ls2 u same =
    holder_more os cs ls2 u ∙ ap (λ b. is_holder os cs u || b) same ∙ sym (holder_more os cs ls u)
