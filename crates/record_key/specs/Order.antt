-- How keys lie to one another, to two fences, and in a range.
use Rattle.std.specs.Prelude.{◌&&◌, Bool, true, not, List, [], ◌∷◌, ◌++◌, Option, Some, None, IsTrue, filter}
use Rattle.std.specs.FinMap.{entries}
use Rattle.std.specs.Ordering.{is_lt}
use Rattle.record_key.specs.Table.{Bytes, Table}
use Rattle.record_key.specs.Laws.{key_cmp}

abbrev pub is_below : Bytes → Bytes → Bool
is_below a b = is_lt (key_cmp a b)

-- the low fence belongs to what lies between; where there is none there is no bound
abbrev pub starts_at_most : Option Bytes → Bytes → Bool
starts_at_most None k = true
starts_at_most (Some low) k = not (is_below k low)

-- the high fence doesn't; where there is none there is no bound
abbrev pub ends_above : Option Bytes → Bytes → Bool
ends_above None k = true
ends_above (Some high) k = is_below k high

abbrev pub is_between : Option Bytes → Option Bytes → Bytes → Bool
is_between low high k = starts_at_most low k && ends_above high k

-- keys from lo on and below hi, or to the end
pub record Range : Type 0 where
  pub lo : Bytes
  pub hi : Option Bytes

abbrev pub has_key : Range → Bytes → Bool
has_key r k = not (is_below k r.lo) && ends_above r.hi k

-- its upper end is above its lower one
abbrev pub HasKeys : Range → Type 0
HasKeys r = IsTrue (ends_above r.hi r.lo)

-- one key: from it to the next text, which has a 0 at its end
abbrev pub one_key : Bytes → Range
one_key k = record { lo = k; hi = Some (k ++ 0 ∷ []) }

-- the rows of a table in a range, in key order
abbrev pub rows_in : Range → Table → List (Bytes × Bytes)
rows_in r m = filter (λ row. has_key r row.0) (entries m)
