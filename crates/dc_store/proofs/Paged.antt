-- The leaves of the pages that were read, each in its place.
use Rattle.std.proofs.Common.{◌≡◌, ◌⊎◌, ℕ, ◌<◌, ◌≤◌, ◌==◌, true, cond, List, [], ◌∷◌, ◌++◌, length, Option, Some, None, is_some, refl, sym, ap, ◌∙◌, subst, inl, inr, arith, eq-eqb, ne_eqb}
use Rattle.std.specs.List.{AllByRecursion, list_any}
use Rattle.std.specs.FinMap as table
use Rattle.std.specs.Ordering.{nat_cmp, eq_by_cmp}
use Rattle.std.specs.Cmp.{unsigned_tied}
use Rattle.std.proofs.lemmas.Bool.{cases_Bool, cases_eq, cases_lt, eqb-true, false≢true}
use Rattle.record_key.proofs.Lists.{all_from, all_appended}
use Rattle.record_key.specs.declared.refusal.Refusal.{Refusal}
use Rattle.codec.specs.Reading.{◌>>=◌}
use Rattle.dc_leaf.specs.Leaf.{LeafView}
use Rattle.stable.specs.PagesState.{Pages}
use Rattle.dc_store.specs.Devices.{page_in, pages_of}
use Rattle.dc_store.specs.Paging.{IsOwnIfAny, RefusesPage, RefusesPages}
use Rattle.dc_store.specs.Recovering.{AreOwnPages}
use Rattle.dc_store.specs.Replaying.{HoldsPages}
use Rattle.dc_store.specs.Shelf.{Slot, leaf_on}

-- the page of this number is its own leaf's, and the leaf stands in its place, if it has one
pub record IsPaged (pages : Pages) (count n : ℕ) (slots : List Slot) (id : ℕ) : Type 0 where
  pub own : IsOwnIfAny (table.get pages id) id count
  pub placed : id < n → leaf_on slots id ≡ pages_of pages id

-- that is so of these pages, and no other leaf stands in a place
pub record ArePaged (pages : Pages) (count n : ℕ) (slots : List Slot) (ids : List ℕ) : Type 0 where
  pub each : AllByRecursion (IsPaged pages count n slots) ids
  pub rest : (id : ℕ) → (leaf_on slots id ≡ None) ⊎ (leaf_on slots id ≡ pages_of pages id)

-- a page that is read takes its place
put_there : (pages : Pages) (old new : List Slot) (leaf : Option LeafView) (id other : ℕ) → leaf ≡ pages_of pages id
    → leaf_on new other ≡ cond (other == id) leaf (leaf_on old other) → leaf_on old other ≡ pages_of pages other
    → leaf_on new other ≡ pages_of pages other
put_there pages old new leaf id other is now was =
    elim (cases_eq other id) [
      | inl e ↦ (rw (eq-eqb other id e) at now) ∙ is ∙ ap (pages_of pages) (sym e)
      | inr apart ↦ (rw (ne_eqb other id apart) at now) ∙ was
    ]

put_or_none : (pages : Pages) (old new : List Slot) (leaf : Option LeafView) (id other : ℕ) → leaf ≡ pages_of pages id
    → leaf_on new other ≡ cond (other == id) leaf (leaf_on old other)
    → (leaf_on old other ≡ None) ⊎ (leaf_on old other ≡ pages_of pages other)
    → (leaf_on new other ≡ None) ⊎ (leaf_on new other ≡ pages_of pages other)
put_or_none pages old new leaf id other is now (inr was) = inr (put_there pages old new leaf id other is now was)
put_or_none pages old new leaf id other is now (inl none) =
    elim (cases_eq other id) [
      | inl e ↦ inr ((rw (eq-eqb other id e) at now) ∙ is ∙ ap (pages_of pages) (sym e))
      | inr apart ↦ inl ((rw (ne_eqb other id apart) at now) ∙ none)
    ]

one_placed : (pages : Pages) (count n : ℕ) (old new : List Slot) (ids : List ℕ) (id : ℕ) (leaf : Option LeafView)
    → ArePaged pages count n old ids → IsOwnIfAny (table.get pages id) id count → leaf ≡ pages_of pages id
    → ((other : ℕ) → leaf_on new other ≡ cond (other == id) leaf (leaf_on old other))
    → ArePaged pages count n new (ids ++ id ∷ [])
one_placed pages count n old new ids id leaf so_far own is now = record {
  each = all_appended (IsPaged pages count n new) ids (id ∷ [])
      (all_from (IsPaged pages count n old) (IsPaged pages count n new)
      (λ x p. record { own = p.own; placed = λ lt. put_there pages old new leaf id x is (now x) (p.placed lt) }) ids
      so_far.each)
      (record { own = own; placed = λ lt. (rw (eq-eqb id id refl) at (now id)) ∙ is }, tt);
  rest = λ other. put_or_none pages old new leaf id other is (now other) (so_far.rest other);
}

-- one that has no place is read too
one_passed : (pages : Pages) (count n : ℕ) (slots : List Slot) (ids : List ℕ) (id : ℕ)
    → ArePaged pages count n slots ids → IsOwnIfAny (table.get pages id) id count → (id < n → ⊥)
    → ArePaged pages count n slots (ids ++ id ∷ [])
one_passed pages count n slots ids id so_far own past = record {
  each = all_appended (IsPaged pages count n slots) ids (id ∷ []) so_far.each
      (record { own = own; placed = λ lt. absurd (past lt) }, tt);
  rest = so_far.rest;
}

-- what is so of each of the numbers is so of one among them
among : (P : ℕ → Type 0) (id : ℕ) (xs : List ℕ) → AllByRecursion P xs → list_any (eq_by_cmp nat_cmp id) xs ≡ true → P id
among P id [] all is = absurd (false≢true is)
among P id (x ∷ xs) all is =
    elim (cases_Bool (eq_by_cmp nat_cmp id x)) [
      | inl here ↦ subst P (sym (eqb-true id x (sym (unsigned_tied id x) ∙ here))) all.0
      | inr apart ↦ among P id xs all.1 (rw apart at is)
    ]

key_there : (P : ℕ → Type 0) (pages : Pages) (id : ℕ) (bytes : List ℕ) → AllByRecursion P (table.keys pages)
    → table.get pages id ≡ Some bytes → P id
key_there P pages id bytes all is =
    among P id (table.keys pages) all (sym (table.contains_key-keys pages id) ∙ ap is_some is)

-- so all pages are their own leaves'
pub all_own : (pages : Pages) (count n : ℕ) (slots : List Slot) → ArePaged pages count n slots (table.keys pages)
    → AreOwnPages pages count
all_own pages count n slots paged id bytes is =
    (key_there (IsPaged pages count n slots) pages id bytes paged.each is).own bytes is

-- and stand in their places
in_place : (pages : Pages) (count n : ℕ) (slots : List Slot) (id : ℕ) (page : Option (List ℕ))
    → ArePaged pages count n slots (table.keys pages) → id < n → table.get pages id ≡ page
    → leaf_on slots id ≡ pages_of pages id
in_place pages count n slots id (Some bytes) paged lt is =
    (key_there (IsPaged pages count n slots) pages id bytes paged.each is).placed lt
in_place pages count n slots id None paged lt is =
    let none : pages_of pages id ≡ None = ap (λ (o : Option (List ℕ)). o >>= page_in) is in
    elim (paged.rest id) [ inl empty ↦ empty ∙ sym none | inr there ↦ there ]

pub all_placed : (pages : Pages) (count n : ℕ) (slots : List Slot) → ArePaged pages count n slots (table.keys pages)
    → length slots ≡ n → HoldsPages pages slots
all_placed pages count n slots paged same id lt =
    in_place pages count n slots id (table.get pages id) paged (omega (arith, lt, same)) refl

-- why one isn't read, none is
pub one_refused : (pages mid : Pages) (id count : ℕ) (r : Refusal) → mid ≡ pages
    → RefusesPage (table.get mid id) id count r → RefusesPages pages count r
one_refused pages mid id count r same (inl memory) = inl memory
one_refused pages mid id count r same (inr (inl device)) = inr (inl device)
one_refused pages mid id count r same (inr (inr bad)) =
    inr (inr (bad.0, λ own. bad.1 (subst (λ (m : Pages). IsOwnIfAny (table.get m id) id count) (sym same) (own id))))

-- the next page is read
pub one_more : (pages : Pages) (count n : ℕ) (old new : List Slot) (ids : List ℕ) (id : ℕ) (leaf : Option LeafView)
    → ArePaged pages count n old ids → IsOwnIfAny (table.get pages id) id count → leaf ≡ pages_of pages id
    → (id < n → (other : ℕ) → leaf_on new other ≡ cond (other == id) leaf (leaf_on old other))
    → (n ≤ id → new ≡ old) → ArePaged pages count n new (ids ++ id ∷ [])
one_more pages count n old new ids id leaf so_far own is now passed =
    elim (cases_lt id n) [
      | inl lt ↦ one_placed pages count n old new ids id leaf so_far own is (now lt)
      | inr ge ↦
          subst (λ (slots : List Slot). ArePaged pages count n slots (ids ++ id ∷ [])) (sym (passed ge))
          (one_passed pages count n old ids id so_far own (λ lt. absurd (omega (arith, lt, ge))))
    ]
