-- What the locks of the code mean, and the tests that it makes of them.
use Rattle.std.specs.Prelude.{◌≡◌, ◌≢◌, ℕ, ◌==◌, ◌&&◌, Bool, not, List, [], ◌∷◌, ◌++◌, Option, Some, None, map, reverse, if◌then◌else◌}
use Rattle.std.specs.BTreeMap.{get}
use Rattle.std.specs.List.{list_any}
use Rattle.std.specs.Ordering.{nat_cmp}
use Rattle.std.specs.Global.{Vec}
use Rattle.record_key.specs.Table.{Bytes}
use Rattle.history.specs.Spans as law
use Rattle.history.specs.Spans.{do_conflict}
use Rattle.record_key.specs.Order as keys
use Rattle.record_key.specs.Order.{ends_above, is_below}
use Rattle.tc_locks.specs.declared.span.Mode.{Mode}
use Rattle.tc_locks.specs.declared.span.Mode.TheVariants.{Shared, Increment, Exclusive}
use Rattle.tc_locks.specs.declared.span.Span.{Span}
use Rattle.tc_locks.specs.declared.span.Span.TheVariants.{Key, Range}
use Rattle.tc_locks.specs.declared.span.Lock.{Lock}
use Rattle.tc_locks.specs.declared.held.Held.{Held}
use Rattle.tc_locks.specs.Locks.{LocksView}

abbrev pub mode_meant : Mode → law.Mode
mode_meant Shared = law.Shared
mode_meant Increment = law.Increment
mode_meant Exclusive = law.Exclusive

abbrev pub low_of : Span → Bytes
low_of (Key k) = k
low_of (Range low high) = low

abbrev pub high_of : Span → Option Bytes
high_of (Key k) = Some (k ++ 0 ∷ [])
high_of (Range low high) = high

abbrev pub range_of : Span → keys.Range
range_of s = record { lo = low_of s; hi = high_of s }

abbrev pub meant : Mode → Span → law.Span
meant m s = record { range = range_of s; mode = mode_meant m }

abbrev pub span_of : Lock → law.Span
span_of l = meant l.mode l.span

abbrev pub later : Bytes → Bytes → Bytes
later a b = if is_below a b then b else a

-- the later of the two lower ends is below both upper ones, and the modes conflict
abbrev pub clash : law.Span → law.Span → Bool
clash s r =
    do_conflict s.mode r.mode
    && (ends_above s.range.hi (later s.range.lo r.range.lo) && ends_above r.range.hi (later s.range.lo r.range.lo))

abbrev pub clashes_with : Lock → Lock → Bool
clashes_with lock held = clash (span_of lock) (span_of held)

-- another transaction holds one of these, and the lock conflicts with it
abbrev pub blocks : ℕ → Lock → ℕ × Vec Lock → Bool
blocks t lock e = not (e.0 == t) && list_any (clashes_with lock) e.1.items

-- a transaction's locks, the oldest first, as its spans
abbrev pub newest_first : List Lock → List law.Span
newest_first locks = map span_of (reverse locks)

abbrev pub seen : Held → LocksView
seen h = map (λ (e : ℕ × Vec Lock). (e.0, newest_first e.1.items)) h.by_txn.entries

-- the same by the locks themselves, the oldest first
abbrev pub items_of : Option (Vec Lock) → List Lock
items_of None = []
items_of (Some locks) = locks.items

abbrev pub locks_in : Held → ℕ → List Lock
locks_in h t = items_of (get nat_cmp h.by_txn t)

-- afterwards the transaction has these locks, and each other one what it had
pub record Lists (old : Held) (t : ℕ) (locks : List Lock) (new : Held) : Type 0 where
  pub own : locks_in new t ≡ locks
  pub others : (u : ℕ) → u ≢ t → locks_in new u ≡ locks_in old u
