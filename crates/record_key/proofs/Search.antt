-- A binary search among entries by their numbers ends at the number's place.
use Rattle.std.proofs.Common.{◌≡◌, ◌⊎◌, ℕ, zero, suc, ◌<◌, ◌≤◌, List, [], ◌∷◌, length, get_or, Result, Ok, Err, sym, ap, ◌∙◌, arith, inl, inr}
use Rattle.std.specs.Prelude.{map}
use Rattle.std.specs.List.Sorted.{IsSearchInRange, IsBinarySearchResult, IsNonDecreasingBy}
use Rattle.std.specs.Ordering.{nat_cmp, ordering_index, ordering_reverse}
use Rattle.std.specs.declared.cmp.Ordering.{Ordering}
use Rattle.std.specs.declared.cmp.Ordering.TheVariants.{Less, Equal, Greater}
use Rattle.std.specs.Cmp.{nat_cmp_total}
use Rattle.std.proofs.lemmas.Bool.{cases_lt}
use Rattle.std.proofs.lemmas.List.{length-map, get_or-map}
use Rattle.std.proofs.Math.Nat.{eq-or-lt_of_le}
use Rattle.record_key.proofs.Numbers.{below, above}
use Rattle.record_key.specs.Places.{StandsAt, BelongsAt, IsPlace}
use Rattle.record_key.specs.declared.entry.Entry.{Entry}
use Rattle.record_key.specs.Entries.{RiseAbove, IsPlaceOfNumber}

-- the place, by what was compared
module _ {X : Type 0} (order : X → Ordering) where
  pub stands_from : (xs : List X) (p : ℕ) (d : X) → p < length xs
      → ((j : ℕ) → j < p → order (get_or xs j d) ≡ Greater) → order (get_or xs p d) ≡ Equal → StandsAt order xs p
  stands_from [] p d within below here = absurd (omega (arith, within))
  stands_from (x ∷ xs) zero d within below here = here
  stands_from (x ∷ xs) (suc p) d within below here = (
    below 0 (omega arith),
    stands_from xs p d (omega (arith, within)) (λ j lt. below (suc j) (omega (arith, lt))) here,
  )

  pub belongs_from : (xs : List X) (p : ℕ) (d : X) → p ≤ length xs
      → ((j : ℕ) → j < p → order (get_or xs j d) ≡ Greater) → (p < length xs → order (get_or xs p d) ≡ Less)
      → BelongsAt order xs p
  belongs_from [] p d within below above = omega (arith, within)
  belongs_from (x ∷ xs) zero d within below above = above (omega arith)
  belongs_from (x ∷ xs) (suc p) d within below above = (
    below 0 (omega arith),
    belongs_from xs p d (omega (arith, within)) (λ j lt. below (suc j) (omega (arith, lt)))
        (λ lt. above (omega (arith, lt))),
  )

at_most_two : (o : Ordering) → ordering_index o ≤ 2
at_most_two Less = omega arith
at_most_two Equal = omega arith
at_most_two Greater = omega arith

-- of two items in order the earlier is below the value, or the later is above it
abbrev Part : Ordering → Ordering → Type 0
Part o p = (o ≡ Less) ⊎ (p ≡ Greater)

part_index : (o p : Ordering) → Part o p → ordering_index o ≤ ordering_index p
part_index o p (inl less) = rw less (omega arith)
part_index o p (inr greater) = rw greater (at_most_two o)

part_less : (o p : Ordering) → Part o p → p ≡ Equal → o ≡ Less
part_less o p (inl less) same = less
part_less o p (inr greater) same = absurd (let no : Greater ≡ Equal = sym greater ∙ same in cc)

-- how each item compares with the value, and how the value compares with each item
module _ {X : Type 0} (items order : X → Ordering) (turned : (x : X) → order x ≡ ordering_reverse (items x))
    (xs : List X)
    (parts : (i j : ℕ) (d : X) → i < j → j < length xs → Part (items (get_or xs i d)) (items (get_or xs j d))) where
  comparisons_rise : IsNonDecreasingBy (λ x. ordering_index (items x)) xs
  comparisons_rise i j d le within =
      elim (eq-or-lt_of_le le) [
        | inr lt ↦ part_index (items (get_or xs i d)) (items (get_or xs j d)) (parts i j d lt within)
        | inl same ↦ rw same (omega arith)
      ]

  turn : (x : X) (o : Ordering) → items x ≡ o → order x ≡ ordering_reverse o
  turn x o is = turned x ∙ ap ordering_reverse is

  pub searched : (d : X) (r : Result ℕ ℕ) → IsSearchInRange r (length xs) → IsBinarySearchResult items xs r
      → IsPlace order xs r
  searched d (Ok at) within equal =
      stands_from order xs at d within
      (λ j lt. turn (get_or xs j d) Less (part_less _ _ (parts j at d lt within) (equal d)))
      (turn (get_or xs at d) Equal (equal d))
  searched d (Err gap) within parted =
      belongs_from order xs gap d within
      (λ j lt. turn (get_or xs j d) Less ((parted comparisons_rise).0 j d (omega (arith, within, lt)) lt))
      (λ lt. turn (get_or xs gap d) Greater ((parted comparisons_rise).1 gap d (omega arith) lt))

numbers_above : (l : ℕ) (es : List Entry) (j : ℕ) (d : Entry) → RiseAbove l es → j < length es
    → l < (get_or es j d).number
numbers_above l [] j d h within = absurd (omega (arith, within))
numbers_above l (e ∷ es) zero d h within = h.0
numbers_above l (e ∷ es) (suc j) d h within =
    let above : e.number < (get_or es j d).number = numbers_above e.number es j d h.1 (omega (arith, within)) in
    omega (arith, above, h.0)

numbers_rise : (l : ℕ) (es : List Entry) (i j : ℕ) (d : Entry) → RiseAbove l es → i < j → j < length es
    → (get_or es i d).number < (get_or es j d).number
numbers_rise l [] i j d h lt within = absurd (omega (arith, within))
numbers_rise l (e ∷ es) i zero d h lt within = absurd (omega (arith, lt))
numbers_rise l (e ∷ es) zero (suc j) d h lt within = numbers_above e.number es j d h.1 (omega (arith, within))
numbers_rise l (e ∷ es) (suc i) (suc j) d h lt within =
    numbers_rise e.number es i j d h.1 (omega (arith, lt)) (omega (arith, within))

numbers_part : (m n k : ℕ) → m < n → Part (nat_cmp m k) (nat_cmp n k)
numbers_part m n k less =
    elim (cases_lt m k) [ inl lt ↦ inl (below m k lt) | inr ge ↦ inr (above n k (omega (arith, less, ge))) ]

stands_mapped : {X Y : Type 0} (f : X → Y) (order : Y → Ordering) (xs : List X) (p : ℕ)
    → StandsAt (λ x. order (f x)) xs p → StandsAt order (map f xs) p
stands_mapped f order [] p h = h
stands_mapped f order (x ∷ xs) zero h = h
stands_mapped f order (x ∷ xs) (suc p) h = (h.0, stands_mapped f order xs p h.1)

belongs_mapped : {X Y : Type 0} (f : X → Y) (order : Y → Ordering) (xs : List X) (p : ℕ)
    → BelongsAt (λ x. order (f x)) xs p → BelongsAt order (map f xs) p
belongs_mapped f order [] p h = h
belongs_mapped f order (x ∷ xs) zero h = h
belongs_mapped f order (x ∷ xs) (suc p) h = (h.0, belongs_mapped f order xs p h.1)

place_mapped : {X Y : Type 0} (f : X → Y) (order : Y → Ordering) (xs : List X) (r : Result ℕ ℕ)
    → IsPlace (λ x. order (f x)) xs r → IsPlace order (map f xs) r
place_mapped f order xs (Ok at) h = stands_mapped f order xs at h
place_mapped f order xs (Err gap) h = belongs_mapped f order xs gap h

-- what is searched stands for entries
module _ {X : Type 0} (f : X → Entry) (xs : List X) (l : ℕ) (h : RiseAbove l (map f xs)) where
  risen : (i j : ℕ) (d : X) → i < j → j < length xs → (f (get_or xs i d)).number < (f (get_or xs j d)).number
  risen i j d lt within =
      let all : length (map f xs) ≡ length xs = length-map xs f in
      let less = numbers_rise l (map f xs) i j (f d) h lt (omega (arith, within, all)) in
      rw (get_or-map f xs i d (f d) (omega (arith, lt, within)), get_or-map f xs j d (f d) within) at less

  pub entries_searched : (n : ℕ) (d : X) (r : Result ℕ ℕ) → IsSearchInRange r (length xs)
      → IsBinarySearchResult (λ x. nat_cmp (f x).number n) xs r → IsPlaceOfNumber n (map f xs) r
  entries_searched n d r within found =
      place_mapped f (λ (e : Entry). nat_cmp n e.number) xs r
      (searched (λ x. nat_cmp (f x).number n) (λ x. nat_cmp n (f x).number)
      (λ x. nat_cmp_total.antisymm n (f x).number) xs
      (λ i j some lt le. numbers_part (f (get_or xs i some)).number (f (get_or xs j some)).number n
      (risen i j some lt le))
      d r within found)
