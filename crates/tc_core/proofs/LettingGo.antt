-- Transactions whose Commit is stable let go of what they hold.
use Rattle.std.proofs.Common.{◌≡◌, ℕ, ◌≤◌, true, false, List, [], ◌∷◌, ◌++◌, is_some, refl, sym, ap, ◌∙◌, arith, inl, inr, true≢false, eq-eqb, ne_eqb}
use Rattle.std.specs.Prelude.{◌==◌, ◌||◌, filter, if◌then◌else◌}
use Rattle.std.proofs.lemmas.Bool.{cases_eq, cases_Bool}
use Rattle.std.proofs.lemmas.List.Folds.{list_any-append}
use Rattle.history.specs.declared.record.Record.{Record}
use Rattle.history.specs.Spans.{Span}
use Rattle.tc_locks.specs.Locks.{LocksView, spans_of, set_spans, IsTable}
use Rattle.tc_locks.proofs.Tables.{set_table, set_own, set_other}
use Rattle.tc_core.specs.declared.open_txn.OpenTxn.{OpenTxn}
use Rattle.tc_core.specs.OpenTxns.{find}
use Rattle.tc_core.specs.Changes.{let_go}
use Rattle.tc_core.specs.Locking.{is_listed, is_holder, op_spans, is_changing, ConflictNowhere, AreHeld, HoldOperations}
use Rattle.tc_core.proofs.HeldSpans.{held_none}

-- the table stays one
gone_table : (ts : List ℕ) (locks : LocksView) → IsTable locks → IsTable (let_go ts locks)
gone_table [] locks table = table
gone_table (t ∷ ts) locks table = gone_table ts (set_spans t [] locks) (set_table t [] locks table)

-- each other holds what it held
pub let_go_other : (ts : List ℕ) (locks : LocksView) (u : ℕ) → IsTable locks → is_listed ts u ≡ false
    → spans_of (let_go ts locks) u ≡ spans_of locks u
let_go_other [] locks u table unlisted = refl
let_go_other (t ∷ ts) locks u table unlisted =
    elim (cases_eq u t) [
      | inl same ↦ absurd (true≢false (sym (ap (λ b. b || is_listed ts u) (eq-eqb t u (sym same))) ∙ unlisted))
      | inr other ↦
          let later : is_listed ts u ≡ false =
          sym (ap (λ b. b || is_listed ts u) (ne_eqb t u (λ e. other (sym e)))) ∙ unlisted in
          let_go_other ts (set_spans t [] locks) u (set_table t [] locks table) later
          ∙ set_other t [] locks u table other
    ]

-- nor more than the keys of operations
pub early_taken : (below t : ℕ) (spans : List Span) (locks : LocksView) → IsTable locks → below ≤ t
    → HoldOperations below locks
    → HoldOperations below (set_spans t spans locks)
early_taken below t spans locks table late h u early =
    let same : spans_of (set_spans t spans locks) u ≡ spans_of locks u =
    set_other t spans locks u table (λ e. omega (arith, e, late, early)) in
    rw same (h u early)

pub early_freed : (below t : ℕ) (locks : LocksView) → IsTable locks → HoldOperations below locks
    → HoldOperations below (set_spans t [] locks)
early_freed below t locks table h u early = elim (cases_eq u t) [
  | inl e ↦ let none : spans_of (set_spans t [] locks) u ≡ [] =
      ap (spans_of (set_spans t [] locks)) e ∙ set_own t [] locks table in rw none refl
  | inr apart ↦ let same : spans_of (set_spans t [] locks) u ≡ spans_of locks u = set_other t [] locks u table apart in
      rw same (h u early)
]

pub early_let_go : (below : ℕ) (ts : List ℕ) (locks : LocksView) → IsTable locks → HoldOperations below locks
    → HoldOperations below (let_go ts locks)
early_let_go below [] locks table h = h
early_let_go below (t ∷ ts) locks table h =
    early_let_go below ts (set_spans t [] locks) (set_table t [] locks table) (early_freed below t locks table h)

-- who holds nothing holds nothing
still_nothing : (ts : List ℕ) (locks : LocksView) (u : ℕ) → IsTable locks → spans_of locks u ≡ []
    → spans_of (let_go ts locks) u ≡ []
still_nothing [] locks u table none = none
still_nothing (t ∷ ts) locks u table none =
    still_nothing ts (set_spans t [] locks) u (set_table t [] locks table) (elim (cases_eq u t) [
      | inl same ↦ ap (spans_of (set_spans t [] locks)) same ∙ set_own t [] locks table
      | inr other ↦ set_other t [] locks u table other ∙ none
    ])

-- they hold nothing any more
gone_own : (ts : List ℕ) (locks : LocksView) (u : ℕ) → IsTable locks → is_listed ts u ≡ true
    → spans_of (let_go ts locks) u ≡ []
gone_own [] locks u table listed = absurd (cc)
gone_own (t ∷ ts) locks u table listed =
    elim (cases_eq u t) [
      | inl same ↦ still_nothing ts (set_spans t [] locks) u (set_table t [] locks table)
          (ap (spans_of (set_spans t [] locks)) same ∙ set_own t [] locks table)
      | inr other ↦
          let later : is_listed ts u ≡ true =
          sym (ap (λ b. b || is_listed ts u) (ne_eqb t u (λ e. other (sym e)))) ∙ listed in
          gone_own ts (set_spans t [] locks) u (set_table t [] locks table) later
    ]

-- so each holds nothing or what it held
pub apart_none : (xs : List Span) → ConflictNowhere xs []
apart_none [] = tt
apart_none (x ∷ xs) = (λ any. any, apart_none xs)

module _ (log : List Record) (os : List OpenTxn) (cs ls : List ℕ) (locks : LocksView)
    (held : AreHeld log os (cs ++ ls) locks)
    (closed : (t : ℕ) → is_listed cs t ≡ true → is_holder os ls t ≡ false) where
  own : (t : ℕ) → is_listed cs t ≡ true → spans_of (let_go cs locks) t ≡ []
  own t = gone_own cs locks t held.table

  other : (t : ℕ) → is_listed cs t ≡ false → spans_of (let_go cs locks) t ≡ spans_of locks t
  other t = let_go_other cs locks t held.table

  -- who isn't committing is a holder where it was
  same_if : (t : ℕ) → is_listed cs t ≡ false → is_holder os ls t ≡ is_holder os (cs ++ ls) t
  same_if t unlisted =
      ap (λ b. is_some (find t os) || b)
      (sym (list_any-append (λ u. u == t) cs ls ∙ ap (λ b. b || is_listed ls t) unlisted))

  pub let_go_held : AreHeld log os ls (let_go cs locks)
  let_go_held = record {
    table = gone_table cs locks held.table;
    changing = λ t. elim (cases_Bool (is_listed cs t)) [
      | inl listed ↦ ap (filter is_changing) (own t listed) ∙ sym (held_none log os ls t (closed t listed))
      | inr unlisted ↦ ap (filter is_changing) (other t unlisted) ∙ held.changing t
          ∙ ap (λ b. if b then op_spans log t else []) (sym (same_if t unlisted))
    ];
    others = λ t none. elim (cases_Bool (is_listed cs t)) [
      | inl listed ↦ own t listed
      | inr unlisted ↦ other t unlisted ∙ held.others t (sym (same_if t unlisted) ∙ none)
    ];
    apart = λ t u differ. elim (cases_Bool (is_listed cs t)) [
      | inl listed ↦ rw (own t listed) tt
      | inr unlisted ↦ elim (cases_Bool (is_listed cs u)) [
        | inl listed_u ↦ rw (own u listed_u) (apart_none (spans_of (let_go cs locks) t))
        | inr unlisted_u ↦ rw (other t unlisted, other u unlisted_u) (held.apart t u differ)
      ]
    ];
  }
