-- Whose locks stand in a take's way.
use Rattle.std.proofs.Common.{◌≡◌, ◌≢◌, ℕ, suc, ◌==◌, ◌&&◌, ◌||◌, Bool, true, false, cond, List, [], ◌∷◌, Option, Some, None, refl, sym, ap, ◌∙◌, subst, inl, inr, true≢false, map, reverse, arith}
use Rattle.std.specs.Prelude.{not, IfNone, IfSome}
use Rattle.std.specs.Global.{Vec}
use Rattle.std.specs.BTreeMap.{get, is_at}
use Rattle.std.specs.Map.{lookup}
use Rattle.std.specs.List.{list_any, All, AllByRecursion}
use Rattle.std.specs.Ordering.{is_eq, nat_cmp}
use Rattle.std.proofs.lemmas.Bool.Decides.{nat_tests}
use Rattle.std.proofs.lemmas.List.{reverse-append}
use Rattle.std.proofs.lemmas.List.Folds.{list_any-append}
use Rattle.history.specs.Spans.{Span, AnyConflict}
use Rattle.tc_locks.specs.declared.span.Lock.{Lock}
use Rattle.tc_locks.specs.declared.held.Held.{Held}
use Rattle.tc_locks.specs.Locks.{spans_of, IsGrantable, IsLeastHolder}
use Rattle.tc_locks.specs.Meant.{span_of, clash, clashes_with, blocks, newest_first, seen, items_of, locks_in}
use Rattle.tc_locks.specs.Least.{least_of, Passes, IsLeast}
use Rattle.tc_locks.proofs.Clashes.{conflicts_from_clashes, clashes_from_conflicts}
use Rattle.tc_locks.proofs.Leaving.{read}
use Rattle.tc_locks.proofs.Least.{least_found}

last_first : (a b : Bool) → (a || (b || false)) ≡ (b || a)
last_first a b = grind arith

any_reversed : {X : Type 0} (p : X → Bool) (xs : List X) → list_any p (reverse xs) ≡ list_any p xs
any_reversed p [] = refl
any_reversed p (x ∷ xs) =
    ap (list_any p) (reverse-append (x ∷ []) xs) ∙ list_any-append p (reverse xs) (x ∷ [])
    ∙ ap (λ b. b || (p x || false)) (any_reversed p xs) ∙ last_first (list_any p xs) (p x)

any_mapped : (s : Span) (locks : List Lock)
    → list_any (clash s) (map span_of locks) ≡ list_any (λ (l : Lock). clash s (span_of l)) locks
any_mapped s [] = refl
any_mapped s (l ∷ ls) = ap (λ b. clash s (span_of l) || b) (any_mapped s ls)

any_newest : (lock : Lock) (locks : List Lock)
    → list_any (clash (span_of lock)) (newest_first locks) ≡ list_any (clashes_with lock) locks
any_newest lock locks = any_mapped (span_of lock) (reverse locks) ∙ any_reversed (clashes_with lock) locks

-- another transaction that holds a conflicting span
abbrev pub StandsInWay : Held → ℕ → Lock → ℕ → Type 0
StandsInWay h t lock u = (u ≢ t) × AnyConflict (span_of lock) (spans_of (seen h) u)

pub way_from_locks : (h : Held) (t : ℕ) (lock : Lock) (u : ℕ) → u ≢ t
    → list_any (clashes_with lock) (locks_in h u) ≡ true → StandsInWay h t lock u
way_from_locks h t lock u other any = grind (arith, read, conflicts_from_clashes, any_newest)

pub locks_from_way : (h : Held) (t : ℕ) (lock : Lock) (u : ℕ) → StandsInWay h t lock u
    → list_any (clashes_with lock) (locks_in h u) ≡ true
locks_from_way h t lock u way = grind (arith, any_newest, clashes_from_conflicts, read)

pub other_number : (u t : ℕ) → not (u == t) ≡ true → u ≢ t
other_number u t h same = grind (arith, nat_tests)

pub both_true : (a b : Bool) → (a && b) ≡ true → (a ≡ true) × (b ≡ true)
both_true a b h = grind arith

same_number : (u k : ℕ) → is_eq (nat_cmp u k) ≡ true → u ≡ k
same_number u k h = grind (arith, nat_tests)

pub all_listed : {X : Type 0} (P : X → Type 0) (xs : List X) → All P xs → AllByRecursion P xs
all_listed P [] h = tt
all_listed P (x ∷ xs) h = (h 0 x (omega arith), all_listed P xs (λ k d lt. h (suc k) d (omega (arith, lt))))

module _ (h : Held) (t : ℕ) (lock : Lock) where
  passes_way : (u : ℕ) (es : List (ℕ × Vec Lock))
      → AllByRecursion (λ (e : ℕ × Vec Lock). get nat_cmp h.by_txn e.0 ≡ Some e.1) es
      → Passes (λ (e : ℕ × Vec Lock). e.0) (blocks t lock) es u → StandsInWay h t lock u
  passes_way u [] all never = absurd never
  passes_way u (e ∷ es) all passes =
      elim passes [
        | inl here ↦
            let tests = both_true (not (e.0 == t)) (list_any (clashes_with lock) e.1.items) here.0 in
            subst (StandsInWay h t lock) here.1
            (way_from_locks h t lock e.0 (other_number e.0 t tests.0)
            (ap (λ o. list_any (clashes_with lock) (items_of o)) all.0 ∙ tests.1))
        | inr later ↦ passes_way u es all.1 later
      ]

  way_first : (b : Bool) (e : ℕ × Vec Lock) (o : Option (Vec Lock)) (u : ℕ) (es : List (ℕ × Vec Lock)) → u ≢ t
      → (b ≡ true → u ≡ e.0)
      → list_any (clashes_with lock) (items_of (cond b (Some e.1) o)) ≡ true
      → (list_any (clashes_with lock) (items_of o) ≡ true → Passes (λ (e : ℕ × Vec Lock). e.0) (blocks t lock) es u)
      → Passes (λ (e : ℕ × Vec Lock). e.0) (blocks t lock) (e ∷ es) u
  way_first b e o u es other is any later = grind arith

  way_passes : (u : ℕ) (es : List (ℕ × Vec Lock)) → u ≢ t
      → list_any (clashes_with lock) (items_of (lookup (is_at (nat_cmp u)) es)) ≡ true
      → Passes (λ (e : ℕ × Vec Lock). e.0) (blocks t lock) es u
  way_passes u [] other any = absurd (true≢false (sym any))
  way_passes u (e ∷ es) other any =
      way_first (is_eq (nat_cmp u e.0)) e (lookup (is_at (nat_cmp u)) es) u es other (same_number u e.0) any
      (λ later. way_passes u es other later)

  -- what a search for the least says of a take
  pub free_where_none : (least : Option ℕ) → IsLeast (StandsInWay h t lock) least
      → IfNone least (IsGrantable (seen h) t (span_of lock))
  free_where_none least l = grind arith

  pub least_where_some : (least : Option ℕ) → IsLeast (StandsInWay h t lock) least
      → IfSome least (IsLeastHolder (seen h) t (span_of lock))
  least_where_some least l = grind arith

  pub searched : AllByRecursion (λ (e : ℕ × Vec Lock). get nat_cmp h.by_txn e.0 ≡ Some e.1) h.by_txn.entries
      → IsLeast (StandsInWay h t lock) (least_of (λ (e : ℕ × Vec Lock). e.0) (blocks t lock) None h.by_txn.entries)
  searched all = least_found (λ (e : ℕ × Vec Lock). e.0) (blocks t lock) (StandsInWay h t lock) h.by_txn.entries
      (λ u passes. passes_way u h.by_txn.entries all passes)
      (λ u way. way_passes u h.by_txn.entries way.0 (locks_from_way h t lock u way))
