-- A table that holds just listed keys.
use Rattle.std.specs.Prelude.{◌≡◌, ℕ, ◌==◌, List, filter, map, reverse}
use Rattle.record_key.specs.Table.{Bytes}
use Rattle.history.specs.Spans.{Span, at_key}
use Rattle.tc_locks.specs.declared.span.Mode.{Mode}
use Rattle.tc_locks.specs.Meant.{mode_meant}
use Rattle.tc_locks.specs.Locks.{LocksView, spans_of, IsTable}

-- a transaction, a key, and what it holds the key for
abbrev pub Listed : Type 0
Listed = ℕ × Bytes × Mode

-- the spans of the keys that are listed for a transaction, the last listed first
abbrev pub listed_spans : List Listed → ℕ → List Span
listed_spans locks t =
    reverse (map (λ (e : Listed). at_key (mode_meant e.2) e.1) (filter (λ (e : Listed). t == e.0) locks))

-- each transaction has just the keys that are listed for it, a key twice where it is listed twice
pub record IsRebuilt (locks : List Listed) (v : LocksView) : Type 0 where
  pub table : IsTable v
  pub spans : (t : ℕ) → spans_of v t ≡ listed_spans locks t
