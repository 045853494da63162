-- Spans of keys that transactions hold, and when two of them conflict.
use Rattle.std.specs.Prelude.{◌⊎◌, Bool, true, false, List, [], ◌∷◌, IsTrue, if◌then◌else◌}
use Rattle.record_key.specs.declared.op.Op.{Op}
use Rattle.record_key.specs.Table.{Bytes, key_of, is_add}
use Rattle.record_key.specs.Order.{Range, has_key, one_key}

-- what a span is held for
pub data Mode : Type 0 where
  Shared : Mode
  Increment : Mode
  Exclusive : Mode

-- two modes agree only where both are shared, or both for increments
abbrev pub do_conflict : Mode → Mode → Bool
do_conflict Shared Shared = false
do_conflict Shared Increment = true
do_conflict Shared Exclusive = true
do_conflict Increment Shared = true
do_conflict Increment Increment = false
do_conflict Increment Exclusive = true
do_conflict Exclusive m = true

-- a range of keys, and what it is held for
pub record Span : Type 0 where
  pub range : Range
  pub mode : Mode

abbrev pub at_key : Mode → Bytes → Span
at_key m k = record { range = one_key k; mode = m }

-- the key of an operation, held for increments where it is one, else exclusively
abbrev pub mode_of : Op → Mode
mode_of o = if is_add o then Increment else Exclusive

abbrev pub changed_span : Op → Span
changed_span o = at_key (mode_of o) (key_of o)

-- they share a key, and their modes conflict
abbrev pub Conflict : Span → Span → Type 0
Conflict s r = (k : Bytes) × IsTrue (has_key s.range k) × IsTrue (has_key r.range k) × IsTrue (do_conflict s.mode r.mode)

-- one of these conflicts with it
abbrev pub AnyConflict : Span → List Span → Type 0
AnyConflict s [] = ⊥
AnyConflict s (r ∷ rs) = Conflict s r ⊎ AnyConflict s rs
