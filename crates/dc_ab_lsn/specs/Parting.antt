-- Entries parted at a key, or put together.
use Rattle.std.specs.Prelude.{ℕ, ◌==◌, ◌&&◌, Bool, not, List, [], ◌∷◌, filter, nat_lt, if◌then◌else◌}
use Rattle.std.specs.List.{list_any}
use Rattle.record_key.specs.Table.{Bytes}
use Rattle.record_key.specs.Order.{is_below}
use Rattle.record_key.specs.declared.entry.Entry.{Entry}
use Rattle.dc_ab_lsn.specs.AbLsn.{AbLsnView, stands_in, with_entry, raised}

-- a key is at or above this one
abbrev pub is_from : Bytes → Bytes → Bool
is_from k key = not (is_below key k)

abbrev pub is_under : Bytes → Bytes → Bool
is_under k key = is_below key k

-- the entries whose keys pass a test
abbrev pub entries_with : (Bytes → Bool) → List Entry → List Entry
entries_with test es = filter (λ (e : Entry). test e.key) es

-- the number stands in an entry whose key passes a test
abbrev pub stands_with : (Bytes → Bool) → List Entry → ℕ → Bool
stands_with test es n = list_any (λ (e : Entry). n == e.number && test e.key) es

-- what is left on the two sides of a cut at a key
abbrev pub cut_under : AbLsnView → Bytes → AbLsnView
cut_under v k = record v { entries = entries_with (is_under k) v.entries }

abbrev pub cut_from : AbLsnView → Bytes → AbLsnView
cut_from v k = record v { entries = entries_with (is_from k) v.entries }

-- an entry put at its place, if it is above a number and its own number doesn't stand there yet
abbrev pub placed_above : ℕ → Entry → List Entry → List Entry
placed_above low e es = if nat_lt low e.number && not (stands_in es e.number) then with_entry e es else es

-- each of the first put so at its place among the second
abbrev pub placed_all : ℕ → List Entry → List Entry → List Entry
placed_all low [] es = es
placed_all low (f ∷ fs) es = placed_all low fs (placed_above low f es)

-- what both capture: the greater low number, and the entries of both above it. Of two with one number the
-- first stays.
abbrev pub with_entries : AbLsnView → List Entry → AbLsnView
with_entries v fs = record v { entries = placed_all v.low fs v.entries }

abbrev pub joined_with : AbLsnView → AbLsnView → AbLsnView
joined_with v w = with_entries (raised v w.low) w.entries
