-- Laws of a table in order: what a transaction's spans are after they were set.
use Rattle.std.proofs.Common.{◌≡◌, ◌≢◌, ℕ, suc, ◌<◌, ◌≤◌, inl, inr, true, false, cond, List, [], ◌∷◌, length, refl, sym, ap, ◌∙◌, subst, arith}
use Rattle.std.specs.BTreeMap.{insert_entry, is_at}
use Rattle.std.specs.Map.{remove_entry}
use Rattle.std.specs.Cmp.{ranks}
use Rattle.std.specs.Ordering.{is_eq, nat_cmp, match_ordering, MatchOrdering}
use Rattle.std.specs.declared.cmp.Ordering.{Ordering}
use Rattle.std.proofs.lemmas.Bool.{cases_lt, cases_eq}
use Rattle.std.proofs.lemmas.Bool.Decides.{nat_tests}
use Rattle.history.specs.Spans.{Span}
use Rattle.tc_locks.specs.Locks.{LocksView, spans_of, set_spans, RisesFrom, IsTable}

pub empty_table : IsTable []
empty_table = tt

pub one_number : (t u : ℕ) → t ≡ u → is_eq (nat_cmp t u) ≡ true
one_number t u same = grind (arith, nat_tests)

two_numbers : (t u : ℕ) → t ≢ u → is_eq (nat_cmp t u) ≡ false
two_numbers t u other = grind (arith, nat_tests)

-- the first one's spans, and another's
here : (t : ℕ) (e : ℕ × List Span) (es : LocksView) → t ≡ e.0 → spans_of (e ∷ es) t ≡ e.1
here t e es same = rw (one_number t e.0 same) refl

there : (t : ℕ) (e : ℕ × List Span) (es : LocksView) → t ≢ e.0 → spans_of (e ∷ es) t ≡ spans_of es t
there t e es other = rw (two_numbers t e.0 other) refl

same_rest : (u : ℕ) (e : ℕ × List Span) (es fs : LocksView) → spans_of es u ≡ spans_of fs u
    → spans_of (e ∷ es) u ≡ spans_of (e ∷ fs) u
same_rest u e es fs h = ap (λ rest. cond (is_eq (nat_cmp u e.0)) e.1 rest) h

-- below the first number nobody is listed
unlisted : (low : ℕ) (v : LocksView) (u : ℕ) → RisesFrom low v → u < low → spans_of v u ≡ []
unlisted low [] u h below = refl
unlisted low (e ∷ es) u h below =
    there u e es (λ same. omega (arith, same, below, h.0))
    ∙ unlisted (suc e.0) es u h.2 (omega (arith, below, h.0))

rises_lower : (low high : ℕ) (v : LocksView) → low ≤ high → RisesFrom high v → RisesFrom low v
rises_lower low high [] lower h = tt
rises_lower low high (e ∷ es) lower h = (omega (arith, lower, h.0), h.1, h.2)

-- tables that give each transaction the same spans are the same
same_from : (low : ℕ) (v w : LocksView) → RisesFrom low v → RisesFrom low w → ((u : ℕ) → spans_of v u ≡ spans_of w u)
    → v ≡ w
same_from low [] [] g h same = refl
same_from low [] (f ∷ fs) g h same = absurd (h.1 (sym (same f.0 ∙ here f.0 f fs refl)))
same_from low (e ∷ es) [] g h same = absurd (g.1 (sym (here e.0 e es refl) ∙ same e.0))
same_from low (e ∷ es) (f ∷ fs) g h same =
    elim (cases_lt e.0 f.0) [
      | inl below ↦ absurd (g.1
          (sym (here e.0 e es refl) ∙ same e.0 ∙ unlisted f.0 (f ∷ fs) e.0 (omega arith, h.1, h.2) below))
      | inr least ↦ elim (cases_lt f.0 e.0) [
        | inl below ↦ absurd (h.1
            (sym (here f.0 f fs refl) ∙ sym (same f.0) ∙ unlisted e.0 (e ∷ es) f.0 (omega arith, g.1, g.2) below))
        | inr greatest ↦
            let number : e.0 ≡ f.0 = omega (arith, least, greatest) in
            let spans : e.1 ≡ f.1 = sym (here e.0 e es refl) ∙ same e.0 ∙ here e.0 f fs number in
            let others : (u : ℕ) → spans_of es u ≡ spans_of fs u = λ u. elim (cases_lt e.0 u) [
              | inl above ↦ sym (there u e es (λ is. omega (arith, is, above))) ∙ same u
                  ∙ there u f fs (λ is. omega (arith, is, above, number))
              | inr small ↦ unlisted (suc e.0) es u g.2 (omega (arith, small))
                  ∙ sym (unlisted (suc f.0) fs u h.2 (omega (arith, small, number)))
            ] in
            let rest : es ≡ fs = same_from (suc e.0) es fs g.2 (subst (λ n. RisesFrom (suc n) fs) (sym number) h.2)
            others in
            λ i. (number i, spans i) ∷ rest i
      ]
    ]

-- a transaction's spans are listed
module _ (t : ℕ) (ss : List Span) where
  first_own : (o : Ordering) (e : ℕ × List Span) (es rest : LocksView) → MatchOrdering o (t < e.0) (t ≡ e.0) (e.0 < t)
      → spans_of rest t ≡ ss
      → spans_of (match_ordering o ((t, ss) ∷ e ∷ es) ((e.0, ss) ∷ es) (e ∷ rest)) t ≡ ss
  first_own o e es rest r later = grind arith

  listed_own : (v : LocksView) → spans_of (insert_entry nat_cmp v t ss) t ≡ ss
  listed_own [] = here t (t, ss) [] refl
  listed_own (e ∷ es) = first_own (nat_cmp t e.0) e es (insert_entry nat_cmp es t ss) (ranks t e.0) (listed_own es)

  first_other : (o : Ordering) (e : ℕ × List Span) (es rest : LocksView) (u : ℕ) → u ≢ t
      → MatchOrdering o (t < e.0) (t ≡ e.0) (e.0 < t) → spans_of rest u ≡ spans_of es u
      → spans_of (match_ordering o ((t, ss) ∷ e ∷ es) ((e.0, ss) ∷ es) (e ∷ rest)) u ≡ spans_of (e ∷ es) u
  first_other o e es rest u other r later = grind arith

  listed_other : (v : LocksView) (u : ℕ) → u ≢ t → spans_of (insert_entry nat_cmp v t ss) u ≡ spans_of v u
  listed_other [] u other = there u (t, ss) [] other
  listed_other (e ∷ es) u other = grind (arith, listed_other es u other, first_other)

  first_rises : (o : Ordering) (low : ℕ) (e : ℕ × List Span) (es rest : LocksView)
      → MatchOrdering o (t < e.0) (t ≡ e.0) (e.0 < t) → ss ≢ [] → low ≤ t → RisesFrom low (e ∷ es)
      → (e.0 < t → RisesFrom (suc e.0) rest)
      → RisesFrom low (match_ordering o ((t, ss) ∷ e ∷ es) ((e.0, ss) ∷ es) (e ∷ rest))
  first_rises o low e es rest r some from h later = grind arith

  listed_rises : (low : ℕ) (v : LocksView) → ss ≢ [] → low ≤ t → RisesFrom low v
      → RisesFrom low (insert_entry nat_cmp v t ss)
  listed_rises low [] some from h = (from, some, tt)
  listed_rises low (e ∷ es) some from h =
      first_rises (nat_cmp t e.0) low e es (insert_entry nat_cmp es t ss) (ranks t e.0) some from h
      (λ above. listed_rises (suc e.0) es some above h.2)

-- a transaction is listed no more
module _ (t : ℕ) where
  unlisted_own : (low : ℕ) (v : LocksView) → RisesFrom low v → spans_of (remove_entry (is_at (nat_cmp t)) v) t ≡ []
  unlisted_own low [] h = refl
  unlisted_own low (e ∷ es) h =
      grind (arith, unlisted_own (suc e.0) es h.2, cases_eq, one_number, unlisted, two_numbers, there)

  unlisted_other : (v : LocksView) (u : ℕ) → u ≢ t → spans_of (remove_entry (is_at (nat_cmp t)) v) u ≡ spans_of v u
  unlisted_other [] u other = refl
  unlisted_other (e ∷ es) u other =
      grind (arith, unlisted_other es u other, cases_eq, one_number, there, two_numbers, same_rest)

  unlisted_rises : (low : ℕ) (v : LocksView) → RisesFrom low v → RisesFrom low (remove_entry (is_at (nat_cmp t)) v)
  unlisted_rises low [] h = tt
  unlisted_rises low (e ∷ es) h =
      grind (arith, unlisted_rises (suc e.0) es h.2, cases_eq, one_number, rises_lower, two_numbers)

some_span : (s : Span) (ss : List Span) → s ∷ ss ≢ []
some_span s ss none = omega (arith, ap length none)

pub set_table : (t : ℕ) (ss : List Span) (v : LocksView) → IsTable v → IsTable (set_spans t ss v)
set_table t [] v h = unlisted_rises t 0 v h
set_table t (s ∷ ss) v h = listed_rises t (s ∷ ss) 0 v (some_span s ss) (omega arith) h

pub set_own : (t : ℕ) (ss : List Span) (v : LocksView) → IsTable v → spans_of (set_spans t ss v) t ≡ ss
set_own t [] v h = unlisted_own t 0 v h
set_own t (s ∷ ss) v h = listed_own t (s ∷ ss) v

pub set_other : (t : ℕ) (ss : List Span) (v : LocksView) (u : ℕ) → IsTable v → u ≢ t
    → spans_of (set_spans t ss v) u ≡ spans_of v u
set_other t [] v u h other = unlisted_other t v u other
set_other t (s ∷ ss) v u h other = listed_other t (s ∷ ss) v u other

-- what was set before is forgotten
pub set_again : (t : ℕ) (ss before : List Span) (v : LocksView) → IsTable v
    → set_spans t ss (set_spans t before v) ≡ set_spans t ss v
set_again t ss before v h =
    let set : IsTable (set_spans t before v) = set_table t before v h in
    same_from 0 _ _ (set_table t ss _ set) (set_table t ss v h) (λ u. elim (cases_eq u t) [
      | inl same ↦ ap (spans_of _) same ∙ set_own t ss _ set ∙ sym (set_own t ss v h) ∙ ap (spans_of _) (sym same)
      | inr other ↦ set_other t ss _ u set other ∙ set_other t before v u h other ∙ sym (set_other t ss v u h other)
    ])

-- to set what the transaction has changes nothing
pub set_same : (t : ℕ) (v : LocksView) → IsTable v → set_spans t (spans_of v t) v ≡ v
set_same t v h =
    same_from 0 _ v (set_table t (spans_of v t) v h) h (λ u. elim (cases_eq u t) [
      | inl same ↦ ap (spans_of _) same ∙ set_own t (spans_of v t) v h ∙ ap (spans_of v) (sym same)
      | inr other ↦ set_other t (spans_of v t) v u h other
    ])
