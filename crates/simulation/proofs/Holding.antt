-- Which spans a loser holds, by its entries and its last operation.
use Rattle.std.proofs.Common.{arith, ◌≡◌, ℕ, Bool, true, false, cond, List, [], ◌∷◌, ◌++◌, Option, Some, None, refl, sym, ap, ◌∙◌, subst, inl, inr, ◌⊎◌, eqb-true, eq-eqb}
use Rattle.std.specs.Prelude.{◌==◌, ◌&&◌, map, if◌then◌else◌}
use Rattle.std.specs.List.{AllByRecursion}
use Rattle.std.proofs.lemmas.Bool.{and_parts}
use Rattle.record_key.specs.declared.op.Op.{Op}
use Rattle.history.specs.declared.record.Record.{Record}
use Rattle.history.specs.History.{Entry, is_left, left_of}
use Rattle.history.specs.Spans.{Span, changed_span}
use Rattle.history.specs.Log.{IsOpBy}
use Rattle.history.specs.ListMachine.{entry_spans, last_spans, last_left}
use Rattle.log_laws.proofs.Records.{both_same}
use Rattle.simulation.specs.View.{HasEntry, IsAmong, AreItsKeys}

-- it is the key of one of the transaction's operations
abbrev pub IsItsKey : List Record → ℕ → Span → Type 0
IsItsKey log t s = (n : ℕ) × (o : Op) × IsOpBy log n t o × (s ≡ changed_span o)

-- one of two lists together
pub among_either : (s : Span) (xs ys : List Span) → IsAmong s (xs ++ ys) → IsAmong s xs ⊎ IsAmong s ys
among_either s [] ys h = inr h
among_either s (x ∷ xs) ys (inl e) = inl (inl e)
among_either s (x ∷ xs) ys (inr h) = elim (among_either s xs ys h) [ inl a ↦ inl (inr a) | inr b ↦ inr b ]

pub among_first : (s : Span) (xs ys : List Span) → IsAmong s xs → IsAmong s (xs ++ ys)
among_first s [] ys h = absurd h
among_first s (x ∷ xs) ys (inl e) = inl e
among_first s (x ∷ xs) ys (inr h) = inr (among_first s xs ys h)

pub among_second : (s : Span) (xs ys : List Span) → IsAmong s ys → IsAmong s (xs ++ ys)
among_second s [] ys h = h
among_second s (x ∷ xs) ys h = inr (among_second s xs ys h)

-- the key of an entry that keeps its number is held by its transaction
entry_here : (bound : ℕ) (e : Entry) (h : List Entry) (t : ℕ) (o : Op) → e.txn ≡ t → e.op ≡ o
    → is_left bound e.number ≡ true → IsAmong (changed_span o) (entry_spans bound t (e ∷ h))
entry_here bound e h t o same is left = rw (eq-eqb e.txn t same, left) (inl (ap (λ p. changed_span p) (sym is)))

pub entry_holds : (bound : ℕ) (h : List Entry) (n t : ℕ) (o : Op) → is_left bound n ≡ true → HasEntry h n t o
    → IsAmong (changed_span o) (entry_spans bound t h)
entry_holds bound [] n t o left has = absurd has
entry_holds bound (e ∷ h) n t o left (inl is) = entry_here bound e h t o is.1 is.2 (ap (is_left bound) is.0 ∙ left)
entry_holds bound (e ∷ h) n t o left (inr has) = grind (arith, entry_holds bound h n t o left has)

-- an entry that keeps its number stands in the log
abbrev pub IsIn : List Record → ℕ → Entry → Type 0
IsIn log bound e = is_left bound e.number ≡ true → IsOpBy log e.number e.txn e.op

-- and what it holds so is the key of an operation
pub held_by_entry : (log : List Record) (bound t : ℕ) (s : Span) (h : List Entry) → AllByRecursion (IsIn log bound) h
    → IsAmong s (entry_spans bound t h) → IsItsKey log t s
held_by_entry log bound t s [] all among = absurd among
held_by_entry log bound t s (e ∷ h) all among =
    elim (split (e.txn == t && is_left bound e.number) refl among) [
      | inl here ↦
          let both = and_parts (e.txn == t) (is_left bound e.number) here.0 in (
            e.number,
            e.op,
            subst (λ (u : ℕ). IsOpBy log e.number u e.op) (eqb-true e.txn t both.0) (all.0 both.1),
            here.1,
          )
      | inr rest ↦ held_by_entry log bound t s h all.1 rest
    ]
  where
    split : (b : Bool) → (e.txn == t && is_left bound e.number) ≡ b
        → IsAmong s (map (λ (x : Entry). changed_span x.op) (cond b (e ∷ left_of bound t h) (left_of bound t h)))
        → (((e.txn == t && is_left bound e.number) ≡ true) × (s ≡ changed_span e.op))
        ⊎ IsAmong s (entry_spans bound t h)
    split true is (inl same) = inl (is, same)
    split true is (inr rest) = inr rest
    split false is rest = inr rest

-- and so is its last operation's, where that is in the log
held_by_last : (log : List Record) (t : ℕ) (s : Span) (last : Option (ℕ × Op))
    → ((n : ℕ) (o : Op) → last ≡ Some (n, o) → IsOpBy log n t o) → IsAmong s (last_spans last) → IsItsKey log t s
held_by_last log t s None logged among = absurd among
held_by_last log t s (Some last) logged (inl e) = (last.0, last.1, logged last.0 last.1 refl, e)
held_by_last log t s (Some last) logged (inr none) = absurd none

last_holds : (last : Option (ℕ × Op)) (n : ℕ) (o : Op) → last ≡ Some (n, o) → IsAmong (changed_span o) (last_spans last)
last_holds last n o e = subst (λ l. IsAmong (changed_span o) (last_spans l)) (sym e) (inl refl)

-- so where each operation in the log has its entry or is the last, the keys are just those of the log's operations
pub its_keys : (log : List Record) (bound : ℕ) (h : List Entry) (t : ℕ) (last : Option (ℕ × Op))
    → AllByRecursion (IsIn log bound) h → ((n : ℕ) (o : Op) → IsOpBy log n t o → is_left bound n ≡ true)
    → ((n : ℕ) (o : Op) → last ≡ Some (n, o) → IsOpBy log n t o)
    → ((n : ℕ) (o : Op) → IsOpBy log n t o → HasEntry h n t o ⊎ (last ≡ Some (n, o)))
    → AreItsKeys log t (entry_spans bound t h ++ last_spans last)
its_keys log bound h t last recorded within logged entered = record {
  each = λ s among. elim (among_either s (entry_spans bound t h) (last_spans last) among) [
    | inl e ↦ held_by_entry log bound t s h recorded e
    | inr e ↦ held_by_last log t s last logged e
  ];
  all = λ n o by. elim (entered n o by) [
    | inl e ↦ among_first (changed_span o) (entry_spans bound t h) (last_spans last)
        (entry_holds bound h n t o (within n o by) e)
    | inr e ↦ among_second (changed_span o) (entry_spans bound t h) (last_spans last) (last_holds last n o e)
  ];
}

-- a last operation that is left
pub last_was : (bound : ℕ) (last : Option (ℕ × Op)) (n : ℕ) (o : Op) → last_left bound last ≡ Some (n, o)
    → (last ≡ Some (n, o)) × (is_left bound n ≡ true)
last_was bound None n o e = absurd (cc)
last_was bound (Some last) n o e = by (is_left bound last.0) refl e
  where
    by : (b : Bool) → is_left bound last.0 ≡ b
        → ◌≡◌ {A = Option (ℕ × Op)} (if b then Some last else None) (Some (n, o))
        → ◌≡◌ {A = Option (ℕ × Op)} (Some last) (Some (n, o)) × (is_left bound n ≡ true)
    by true is e = (e, subst (λ (k : ℕ). is_left bound k ≡ true) (both_same last.0 n last.1 o e).0 is)
    by false is e = absurd (cc)

pub last_is_left : (bound : ℕ) (last : Option (ℕ × Op)) (n : ℕ) (o : Op) → last ≡ Some (n, o) → is_left bound n ≡ true
    → last_left bound last ≡ Some (n, o)
last_is_left bound last n o e left = ap (last_left bound) e ∙ ap (λ (b : Bool). if b then Some (n, o) else None) left
