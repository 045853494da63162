-- Entries whose numbers rise, and the place of a number among them.
use Rattle.std.specs.Prelude.{ℕ, ◌<◌, max, IsTrue, List, [], ◌∷◌, Option, Result, map}
use Rattle.std.specs.List.{AllByRecursion}
use Rattle.std.specs.Ordering.{nat_cmp}
use Rattle.record_key.specs.Table.{Bytes}
use Rattle.record_key.specs.Order.{is_between}
use Rattle.record_key.specs.Places.{StandsAt, BelongsAt, IsPlace}
use Rattle.record_key.specs.declared.entry.Entry.{Entry}

abbrev pub numbers : List Entry → List ℕ
numbers entries = map (λ (e : Entry). e.number) entries

-- the greatest of them, 0 where there are none
abbrev pub top_in : List Entry → ℕ
top_in [] = 0
top_in (e ∷ es) = max e.number (top_in es)

-- numbers strictly rise, the first from above this one
abbrev pub RiseAbove : ℕ → List Entry → Type 0
RiseAbove low [] = Unit {0}
RiseAbove low (e ∷ es) = (low < e.number) × RiseAbove e.number es

-- each key lies between the fences
abbrev pub StandBetween : Option Bytes → Option Bytes → List Entry → Type 0
StandBetween low high entries = AllByRecursion (λ (e : Entry). IsTrue (is_between low high e.key)) entries

-- the entry at this place has the number, and those before it have lower ones
abbrev pub HasNumberAt : ℕ → List Entry → ℕ → Type 0
HasNumberAt n es p = StandsAt (λ (e : Entry). nat_cmp n e.number) es p

-- no entry has the number, and it belongs at this place
abbrev pub IsGapForNumber : ℕ → List Entry → ℕ → Type 0
IsGapForNumber n es p = BelongsAt (λ (e : Entry). nat_cmp n e.number) es p

abbrev pub IsPlaceOfNumber : ℕ → List Entry → Result ℕ ℕ → Type 0
IsPlaceOfNumber n es place = IsPlace (λ (e : Entry). nat_cmp n e.number) es place
