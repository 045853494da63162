-- The order of the index: ranges first, then single keys, each by its first key.
use Rattle.std.specs.Ordering.{nat_cmp, ordering_then}
use Rattle.std.specs.Option.{option_cmp}
use Rattle.std.specs.declared.cmp.Ordering.{Ordering}
use Rattle.std.specs.declared.cmp.Ordering.TheVariants.{Less, Equal, Greater}
use Rattle.record_key.specs.Laws.{key_cmp}
use Rattle.tc_locks.specs.declared.span.Mode.{Mode}
use Rattle.tc_locks.specs.declared.span.Mode.TheVariants.{Shared, Increment, Exclusive}
use Rattle.tc_locks.specs.declared.span.Span.{Span}
use Rattle.tc_locks.specs.declared.span.Span.TheVariants.{Key, Range}
use Rattle.tc_locks.specs.declared.span.Lock.{Lock}
use Rattle.tc_locks.specs.declared.entry.Entry.{Entry}

abbrev pub mode_cmp : Mode → Mode → Ordering
mode_cmp Shared Shared = Equal
mode_cmp Shared Increment = Less
mode_cmp Shared Exclusive = Less
mode_cmp Increment Shared = Greater
mode_cmp Increment Increment = Equal
mode_cmp Increment Exclusive = Less
mode_cmp Exclusive Shared = Greater
mode_cmp Exclusive Increment = Greater
mode_cmp Exclusive Exclusive = Equal

abbrev pub span_cmp : Span → Span → Ordering
span_cmp (Range low high) (Range lo hi) = ordering_then (key_cmp low lo) (option_cmp key_cmp high hi)
span_cmp (Range low high) (Key k) = Less
span_cmp (Key k) (Range lo hi) = Greater
span_cmp (Key k) (Key j) = key_cmp k j

abbrev pub lock_cmp : Lock → Lock → Ordering
lock_cmp l r = ordering_then (span_cmp l.span r.span) (mode_cmp l.mode r.mode)

abbrev pub entry_cmp : Entry → Entry → Ordering
entry_cmp d e = ordering_then (lock_cmp d.lock e.lock) (nat_cmp d.txn e.txn)
