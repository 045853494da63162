-- A lock that conflicts stands where it is looked for.
use Rattle.std.proofs.Common.{◌≡◌, ℕ, ◌<◌, ◌^◌, ◌-◌, Bool, true, false, cond, [], ◌∷◌, ◌++◌, Option, Some, refl, ◌⊎◌, arith, true≢false}
use Rattle.std.specs.Prelude.{not, T}
use Rattle.std.specs.Bound.{IsForward}
use Rattle.std.specs.BTreeMap.Range.{IsLeBy, IsLtBy, range_contains, is_past_end}
use Rattle.std.specs.declared.ops.Bound.{Bound}
use Rattle.std.specs.declared.ops.Bound.TheVariants.{Included, Unbounded}
use Rattle.std.specs.Ordering.{is_lt, is_le, is_gt, nat_cmp, ordering_then}
use Rattle.std.specs.declared.cmp.Ordering.{Ordering}
use Rattle.std.specs.declared.cmp.Ordering.TheVariants.{Less, Equal}
use Rattle.std.proofs.lemmas.Cmp.{nat_list_cmp_total, tied_itself}
use Rattle.std.proofs.lemmas.Map.Lookups.{exact_bytes}
use Rattle.record_key.specs.Table.{Bytes}
use Rattle.record_key.specs.Laws.{key_cmp}
use Rattle.record_key.specs.Order.{is_below, ends_above}
use Rattle.tc_locks.specs.declared.span.Mode.{Mode}
use Rattle.tc_locks.specs.declared.span.Mode.TheVariants.{Shared, Exclusive}
use Rattle.tc_locks.specs.declared.span.Span.{Span}
use Rattle.tc_locks.specs.declared.span.Span.TheVariants.{Key}
use Rattle.tc_locks.specs.declared.span.Lock.{Lock}
use Rattle.tc_locks.specs.declared.entry.Entry.{Entry}
use Rattle.tc_locks.specs.Meant.{low_of, high_of, span_of, clash, clashes_with}
use Rattle.tc_locks.specs.Order.{mode_cmp, entry_cmp}
use Rattle.tc_locks.specs.Places.{first_at, ranges_at, HasRangesBelow, keys_from, keys_to}
use Rattle.tc_locks.proofs.KeyEnds.{below_next}
use Rattle.record_key.proofs.Truths.{and_first, and_second, is_lt-Less, as_T, from_T}
use Rattle.tc_locks.proofs.Clashes.{not_below_itself, not_below_lower, late_second, ends_lower}

-- a search goes forward
first_below_last : (o : Ordering) → o ≡ Equal → (p q : Ordering)
    → is_gt (ordering_then (ordering_then o Less) p) ≡ false
first_below_last o e p q = grind arith

first_below_first : (o : Ordering) → o ≡ Less → (p q : Ordering) → is_gt (ordering_then (ordering_then o p) q) ≡ false
first_below_first o e p q = grind arith

pub forward : (s : Span) → ends_above (high_of s) (low_of s) ≡ true
    → IsForward (IsLeBy entry_cmp) (IsLtBy entry_cmp) (keys_from s) (keys_to s)
forward s range = grind (arith, first_below_last, tied_itself, nat_list_cmp_total, first_below_first, is_lt-Less, as_T)

pub forward_as : (s : Span) (low : Bytes) (from : Entry) (to : Bound Entry) → from ≡ first_at low → low ≡ low_of s
    → to ≡ keys_to s → ends_above (high_of s) (low_of s) ≡ true
    → IsForward (IsLeBy entry_cmp) (IsLtBy entry_cmp) (Included from) to
forward_as s low from to starts lowest ends range = grind (arith, forward)

-- a key that conflicts is in the span
key_within : (lo k : Bytes) (hi : Option Bytes) (t : Bool) → is_below lo k ≡ t → T (ends_above hi (cond t k lo))
    → T (is_below (cond t k lo) (k ++ 0 ∷ []))
    → T (not (is_below k lo)) × T (ends_above hi k)
key_within lo k hi t e ends next =
    grind (arith, not_below_lower, as_T, below_next, exact_bytes, not_below_itself, true≢false)

-- and so between the two bounds
reaches_first : (k lo : Bytes) (m : Mode) (u : ℕ) (o : Ordering) → key_cmp lo k ≡ o → T (not (is_below k lo))
    → is_le (ordering_then (ordering_then o (mode_cmp Shared m)) (nat_cmp 0 u)) ≡ true
reaches_first k lo m u o e above = grind (arith, nat_list_cmp_total.antisymm)

before_high : (k high : Bytes) (o p q : Ordering) → key_cmp high k ≡ o → key_cmp k high ≡ Less
    → is_le (ordering_then (ordering_then o p) q) ≡ false
before_high k high o p q e below = grind (arith, true≢false, nat_list_cmp_total.antisymm)

up_to_last : (j k : Bytes) (m : Mode) (u : ℕ) (o : Ordering) → key_cmp j k ≡ o → u < 2 ^ 64 → T (is_le (key_cmp k j))
    → is_lt (ordering_then (ordering_then o (mode_cmp Exclusive m)) (nat_cmp (2 ^ 64 - 1) u)) ≡ false
up_to_last j k m u o e small le = grind (arith, nat_list_cmp_total.antisymm)

ends_before : (s : Span) (k : Bytes) (m : Mode) (u : ℕ) → u < 2 ^ 64 → T (ends_above (high_of s) k)
    → is_past_end entry_cmp (keys_to s) (record { lock = record { span = Key k; mode = m }; txn = u }) ≡ false
ends_before s k m u small ends = grind (arith, up_to_last, below_next, before_high, is_lt-Less)

key_found : (l : Lock) (k : Bytes) (m : Mode) (u : ℕ) → u < 2 ^ 64
    → T (not (is_below k (low_of l.span))) × T (ends_above (high_of l.span) k)
    → range_contains entry_cmp (keys_from l.span) (keys_to l.span)
    (record { lock = record { span = Key k; mode = m }; txn = u }) ≡ true
key_found l k m u small within = grind (arith, reaches_first, ends_before)

-- a range that conflicts begins below the upper end
before_range : (low high : Bytes) (o p q r : Ordering) → key_cmp high low ≡ o → key_cmp low high ≡ Less
    → is_le (ordering_then (ordering_then (ordering_then o p) q) r) ≡ false
before_range low high o p q r e below = grind (arith, true≢false, nat_list_cmp_total.antisymm)

below_range : (s : Span) (k : Bytes) → ((low : Bytes) → ends_above (high_of s) low ≡ true → key_cmp low k ≡ Less)
    → HasRangesBelow s (ranges_at k)
below_range s k under low high m u above = before_range low k (key_cmp k low) _ _ _ refl (under low above)

under_next : (low k next : Bytes) (o : Ordering) → key_cmp low k ≡ o → T (is_le o) → key_cmp k next ≡ Less
    → key_cmp low next ≡ Less
under_next low k next o e le more = grind (arith, nat_list_cmp_total.trans, nat_list_cmp_total.congr)

below_next_key : (k next low : Bytes) → is_below k next ≡ true → ends_above (high_of (Key k)) low ≡ true
    → key_cmp low next ≡ Less
below_next_key k next low more above = grind (arith, under_next, below_next, as_T, is_lt-Less)

pub high_below : (s : Span) (hi : Bytes) (to : Bound Entry) → high_of s ≡ Some hi → to ≡ ranges_at hi
    → HasRangesBelow s to
high_below s hi to ends is = grind (arith, below_range, is_lt-Less, as_T)

pub next_below : (s : Span) (k next : Bytes) (to : Bound Entry) → s ≡ Key k → is_below k next ≡ true
    → to ≡ ranges_at next → HasRangesBelow s to
next_below s k next to key more is = grind (arith, below_range, below_next_key)

found_at : (l : Lock) (to : Bound Entry) → HasRangesBelow l.span to → (s : Span) (m : Mode) (u : ℕ) → u < 2 ^ 64
    → T (clash (span_of l) (span_of (record { span = s; mode = m })))
    → (range_contains entry_cmp Unbounded to (record { lock = record { span = s; mode = m }; txn = u }) ≡ true)
    ⊎ (range_contains entry_cmp (keys_from l.span) (keys_to l.span)
    (record { lock = record { span = s; mode = m }; txn = u }) ≡ true)
found_at l to below s m u small h =
    grind (arith, and_second, ends_lower, late_second, and_first, from_T, key_found, key_within)

pub found : (l : Lock) (to : Bound Entry) → HasRangesBelow l.span to → (e : Entry) → e.txn < 2 ^ 64
    → clashes_with l e.lock ≡ true
    → (range_contains entry_cmp Unbounded to e ≡ true)
    ⊎ (range_contains entry_cmp (keys_from l.span) (keys_to l.span) e ≡ true)
found l to below e small h = found_at l to below e.lock.span e.lock.mode e.txn small (as_T _ h)
