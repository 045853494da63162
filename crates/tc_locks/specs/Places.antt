-- Between which entries of the index a lock can meet a conflicting one.
use Rattle.std.specs.Prelude.{◌≡◌, ℕ, ◌^◌, ◌-◌, true, false, [], ◌∷◌, Option, Some, None}
use Rattle.std.specs.declared.ops.Bound.{Bound}
use Rattle.std.specs.declared.ops.Bound.TheVariants.{Included, Excluded, Unbounded}
use Rattle.std.specs.BTreeMap.Range.{is_past_end}
use Rattle.record_key.specs.Table.{Bytes}
use Rattle.record_key.specs.Order.{ends_above}
use Rattle.tc_locks.specs.declared.span.Mode.{Mode}
use Rattle.tc_locks.specs.declared.span.Mode.TheVariants.{Shared, Exclusive}
use Rattle.tc_locks.specs.declared.span.Span.{Span}
use Rattle.tc_locks.specs.declared.span.Span.TheVariants.{Key, Range}
use Rattle.tc_locks.specs.declared.entry.Entry.{Entry}
use Rattle.tc_locks.specs.Meant.{low_of, high_of}
use Rattle.tc_locks.specs.Order.{entry_cmp}

-- the first and the last entry that a key can have
abbrev pub first_at : Bytes → Entry
first_at k = record { lock = record { span = Key k; mode = Shared }; txn = 0 }

abbrev pub last_at : Bytes → Entry
last_at k = record { lock = record { span = Key k; mode = Exclusive }; txn = 2 ^ 64 - 1 }

-- past all ranges
abbrev pub ranges_end : Bound Entry
ranges_end = Excluded (first_at (0 ∷ []))

-- below the ranges that begin at the key
abbrev pub ranges_at : Bytes → Bound Entry
ranges_at k = Excluded (record { lock = record { span = Range k None; mode = Shared }; txn = 0 })

-- the ranges that begin below the span's upper end stand before this bound
abbrev pub HasRangesBelow : Span → Bound Entry → Type 0
HasRangesBelow s to =
    (low : Bytes) (high : Option Bytes) (m : Mode) (u : ℕ) → ends_above (high_of s) low ≡ true
    → is_past_end entry_cmp to (record { lock = record { span = Range low high; mode = m }; txn = u }) ≡ false

abbrev pub keys_from : Span → Bound Entry
keys_from s = Included (first_at (low_of s))

abbrev pub keys_to : Span → Bound Entry
keys_to (Key k) = Included (last_at k)
keys_to (Range low None) = Unbounded
keys_to (Range low (Some high)) = Excluded (first_at high)
