-- A search of the index finds who stands in a take's way.
use Rattle.std.proofs.Common.{arith, ◌≡◌, ◌⊎◌, ℕ, ◌<◌, ◌^◌, ◌==◌, ◌&&◌, ◌||◌, Bool, true, false, cond, filter, List, [], ◌∷◌, Option, None, refl, sym, ap, ◌∙◌, subst, inl, inr, true≢false, ne_eqb}
use Rattle.std.specs.Prelude.{not}
use Rattle.std.specs.List.{list_any}
use Rattle.std.proofs.lemmas.Bool.{or_right}
use Rattle.std.specs.BTreeMap.Range.{range_contains}
use Rattle.std.specs.declared.ops.Bound.{Bound}
use Rattle.std.specs.declared.ops.Bound.TheVariants.{Included, Unbounded}
use Rattle.record_key.specs.Table.{Bytes}
use Rattle.tc_locks.specs.Places.{first_at, HasRangesBelow, keys_from, keys_to}
use Rattle.tc_locks.specs.Meant.{low_of}
use Rattle.tc_locks.proofs.Placing.{found}
use Rattle.std.specs.Ordering.{is_eq}
use Rattle.std.specs.BTreeSet.{BTreeSet}
use Rattle.tc_locks.specs.declared.span.Lock.{Lock}
use Rattle.tc_locks.specs.declared.entry.Entry.{Entry}
use Rattle.tc_locks.specs.declared.held.Held.{Held}
use Rattle.tc_locks.specs.Meant.{locks_in, clashes_with}
use Rattle.tc_locks.specs.Order.{entry_cmp}
use Rattle.tc_locks.specs.Least.{least_of, Passes, IsLeast}
use Rattle.tc_locks.specs.Index.{is_lock_of, stops, txn_of, stands, IsIndexed}
use Rattle.tc_locks.proofs.Orders.{lock_exact, entry_exact, lock_tied, entry_tied}
use Rattle.tc_locks.proofs.Blocking.{StandsInWay, way_from_locks, locks_from_way, other_number, both_true}
use Rattle.tc_locks.proofs.Least.{least_of_two}

-- an element of a list
abbrev pub Has : {X : Type 0} → X → List X → Type 0
Has x [] = ⊥
Has x (y ∷ ys) = (y ≡ x) ⊎ Has x ys

has_any : {X : Type 0} (p : X → Bool) (x : X) (xs : List X) → Has x xs → p x ≡ true → list_any p xs ≡ true
has_any p x [] never h = absurd never
has_any p x (y ∷ ys) has h =
    elim has [
      | inl here ↦ ap (λ b. b || list_any p ys) (ap p here ∙ h)
      | inr later ↦ or_right (p y) (list_any p ys) (has_any p x ys later h)
    ]

first_or : {X : Type 0} (b : Bool) (p : X → Bool) (x : X) (xs : List X) → p x ≡ b → (b || list_any p xs) ≡ true
    → (list_any p xs ≡ true → (y : X) × Has y xs × (p y ≡ true)) → (y : X) × Has y (x ∷ xs) × (p y ≡ true)
first_or b p x xs is h later = grind arith

any_has : {X : Type 0} (p : X → Bool) (xs : List X) → list_any p xs ≡ true → (x : X) × Has x xs × (p x ≡ true)
any_has p [] h = absurd (true≢false (sym h))
any_has p (x ∷ xs) h = first_or (p x) p x xs refl h (any_has p xs)

-- what passes among the filtered
module _ {X : Type 0} (holder : X → ℕ) (test p : X → Bool) where
  passes_first : (b : Bool) (x : X) (xs : List X) (u : ℕ)
      → Passes holder test (cond b (x ∷ filter p xs) (filter p xs)) u
      → (Passes holder test (filter p xs) u → (y : X) × Has y xs × (test y ≡ true) × (holder y ≡ u))
      → (y : X) × Has y (x ∷ xs) × (test y ≡ true) × (holder y ≡ u)
  passes_first b x xs u passes later = grind arith

  pub passes_has : (xs : List X) (u : ℕ) → Passes holder test (filter p xs) u
      → (y : X) × Has y xs × (test y ≡ true) × (holder y ≡ u)
  passes_has [] u passes = absurd passes
  passes_has (x ∷ xs) u passes = passes_first (p x) x xs u passes (passes_has xs u)

  here_passes : (b : Bool) (x y : X) (xs : List X) → b ≡ true → x ≡ y → test y ≡ true
      → Passes holder test (cond b (x ∷ xs) xs) (holder y)
  here_passes b x y xs is same tests = grind arith

  later_passes : (b : Bool) (x : X) (xs : List X) (u : ℕ) → Passes holder test xs u
      → Passes holder test (cond b (x ∷ xs) xs) u
  later_passes b x xs u passes = grind arith

  pub has_passes : (y : X) (xs : List X) → Has y xs → p y ≡ true → test y ≡ true
      → Passes holder test (filter p xs) (holder y)
  has_passes y [] never is tests = absurd never
  has_passes y (x ∷ xs) has is tests =
      elim has [
        | inl here ↦ here_passes (p x) x y (filter p xs) (ap p here ∙ is) here tests
        | inr later ↦ later_passes (p x) x (filter p xs) (holder y) (has_passes y xs later is tests)
      ]

module _ (h : Held) (s : BTreeSet Entry) (t : ℕ) (lock : Lock) (indexed : IsIndexed h s) where
  -- an indexed entry is held
  entry_stands : (e : Entry) → Has e s.keys → stands h e ≡ true
  entry_stands e has = grind (arith, has_any, entry_tied)

  entry_way : (e : Entry) → Has e s.keys → stops t lock e ≡ true → StandsInWay h t lock e.txn
  entry_way e has stopping =
      let tests = both_true (not (e.txn == t)) (clashes_with lock e.lock) stopping in
      let found = any_has (is_lock_of e) (locks_in h e.txn) (entry_stands e has) in
      way_from_locks h t lock e.txn (other_number e.txn t tests.0)
      (has_any (clashes_with lock) found.0 (locks_in h e.txn) found.1
      (ap (clashes_with lock) (lock_exact found.0 e.lock found.2) ∙ tests.1))

  pub passes_in_way : (p : Entry → Bool) (u : ℕ) → Passes txn_of (stops t lock) (filter p s.keys) u
      → StandsInWay h t lock u
  passes_in_way p u passes =
      let found = passes_has txn_of (stops t lock) p s.keys u passes in
      subst (StandsInWay h t lock) found.3 (entry_way found.0 found.1 found.2)

  small : (u : ℕ) (l : Lock) → Has l (locks_in h u) → u < 2 ^ 64
  small u l has = grind arith

  -- what is held and conflicts is an entry
  way_entry : (u : ℕ) → StandsInWay h t lock u
      → (e : Entry) × Has e s.keys × (stops t lock e ≡ true) × (e.txn ≡ u) × (e.txn < 2 ^ 64)
  way_entry u way =
      let found = any_has (clashes_with lock) (locks_in h u) (locks_from_way h t lock u way) in
      let e : Entry = record { lock = found.0; txn = u } in
      let held : stands h e ≡ true =
      has_any (is_lock_of e) found.0 (locks_in h u) found.1 (ap is_eq (lock_tied found.0)) in
      let there = any_has (λ (k : Entry). is_eq (entry_cmp e k)) s.keys (indexed.each e ∙ held) in
      let apart : (u == t) ≡ false = ne_eqb u t way.0 in (
        e,
        subst (λ (k : Entry). Has k s.keys) (sym (entry_exact e there.0 there.2)) there.1,
        ap (λ b. not b && clashes_with lock found.0) apart ∙ found.2,
        refl,
        small u found.0 found.1,
      )

  -- two searches that together look wherever a conflict can be
  pub both_searched : (p r : Entry → Bool)
      → ((e : Entry) → e.txn < 2 ^ 64 → clashes_with lock e.lock ≡ true → (p e ≡ true) ⊎ (r e ≡ true))
      → IsLeast (StandsInWay h t lock)
      (least_of txn_of (stops t lock) (least_of txn_of (stops t lock) None (filter p s.keys)) (filter r s.keys))
  both_searched p r somewhere =
      least_of_two txn_of (stops t lock) (StandsInWay h t lock) (filter p s.keys) (filter r s.keys) (passes_in_way p)
      (passes_in_way r)
      (λ u way.
      let there = way_entry u way in
      let conflicts = both_true (not (there.0.txn == t)) (clashes_with lock there.0.lock) there.2 in
      elim (somewhere there.0 there.4 conflicts.1) [
        | inl first ↦ inl (subst (Passes txn_of (stops t lock) (filter p s.keys)) there.3
            (has_passes txn_of (stops t lock) p there.0 s.keys there.1 first there.2))
        | inr second ↦ inr (subst (Passes txn_of (stops t lock) (filter r s.keys)) there.3
            (has_passes txn_of (stops t lock) r there.0 s.keys there.1 second there.2))
      ])

  -- the search of the ranges and then of the keys
  pub places_searched : (low : Bytes) (end to : Bound Entry) (from : Entry) (first least : Option ℕ)
      → HasRangesBelow lock.span end → from ≡ first_at low → low ≡ low_of lock.span → to ≡ keys_to lock.span
      → first ≡ least_of txn_of (stops t lock) None (filter (range_contains entry_cmp Unbounded end) s.keys)
      → least ≡ least_of txn_of (stops t lock) first (filter (range_contains entry_cmp (Included from) to) s.keys)
      → IsLeast (StandsInWay h t lock) least
  places_searched low end to from first least below from_is low_is to_is first_is least_is =
      let starts : from ≡ first_at (low_of lock.span) = from_is ∙ ap first_at low_is in
      let both : least ≡ least_of txn_of (stops t lock)
      (least_of txn_of (stops t lock) None (filter (range_contains entry_cmp Unbounded end) s.keys))
      (filter (range_contains entry_cmp (keys_from lock.span) (keys_to lock.span)) s.keys) =
      least_is ∙ (λ i. least_of txn_of (stops t lock) (first_is i)
      (filter (range_contains entry_cmp (Included (starts i)) (to_is i)) s.keys)) in
      subst (IsLeast (StandsInWay h t lock)) (sym both)
      (both_searched (range_contains entry_cmp Unbounded end)
      (range_contains entry_cmp (keys_from lock.span) (keys_to lock.span)) (found lock end below))
