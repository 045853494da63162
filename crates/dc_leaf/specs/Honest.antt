-- When a leaf is honest for a log, and what keeps it so.
use Rattle.std.specs.Prelude.{◌≡◌, ◌⊎◌, ℕ, ◌<◌, ◌≤◌, true, false, List, ◌++◌, length, Some}
use Rattle.std.specs.List.{AllByRecursion}
use Rattle.std.specs.FinMap.{get}
use Rattle.record_key.specs.declared.op.Op.{Op}
use Rattle.record_key.specs.Table.{Bytes, key_of, AreAdds}
use Rattle.history.specs.declared.record.Record.{Record}
use Rattle.history.specs.declared.record.Record.TheVariants as is
use Rattle.history.specs.Log.{record_at, Requests}
use Rattle.history.specs.Values.{IsRight}
use Rattle.history.specs.Honest.{IsHonestAt}
use Rattle.record_key.specs.declared.entry.Entry.{Entry}
use Rattle.record_key.specs.Entries.{RiseAbove}
use Rattle.dc_ab_lsn.specs.AbLsn.{captures}
use Rattle.dc_leaf.specs.Leaf.{LeafView, is_in_fences, IsLeaf, performed, raised_to}
use Rattle.dc_leaf.specs.Parting.{upper_of, lower_of, joined_of, AreNeighbours}
use Rattle.dc_leaf.specs.TakingBack.{taken_back}

-- a saved answer is the one given at its place
pub record IsSavedRight (log : List Record) (e : Entry) : Type 0 where
  pub op : Op
  pub requests : Requests log e.number op
  pub on_key : key_of op ≡ e.key
  pub right : IsRight log e.number e.answer

-- at each of its keys it has captured a beginning of what the log does there, but for Adds among Adds, and holds what
-- that gives
pub record IsHonestLeaf (log : List Record) (leaf : LeafView) : Type 0 where
  pub at : (k : Bytes) → is_in_fences leaf k ≡ true → IsHonestAt log (captures leaf.ab) k (get leaf.rows k)
  pub saved : AllByRecursion (IsSavedRight log) leaf.ab.entries

-- the number may be the log's next on its key: it isn't captured, and all before it on the key are, but for Adds where
-- it is one
pub record IsNextOn (log : List Record) (leaf : LeafView) (n : ℕ) (o : Op) : Type 0 where
  pub requests : Requests log n o
  pub within : is_in_fences leaf (key_of o) ≡ true
  pub uncaptured : captures leaf.ab n ≡ false
  pub others : (m : ℕ) (q : Op) → Requests log m q → key_of q ≡ key_of o → m < n
      → (captures leaf.ab m ≡ true) ⊎ AreAdds o q

-- the log's numbers up to this one on the leaf's keys are captured
pub record IsCapturedTo (log : List Record) (leaf : LeafView) (l : ℕ) : Type 0 where
  pub all : (n : ℕ) (o : Op) → Requests log n o → is_in_fences leaf (key_of o) ≡ true → n ≤ l
      → captures leaf.ab n ≡ true

-- only Session records stand above the end, up to this number
abbrev pub AreSessions : List Record → ℕ → ℕ → Type 0
AreSessions log end l = (n : ℕ) → end < n → n ≤ l → record_at log n ≡ Some is.Session

-- a leaf stays honest where it performs a number that may be the log's next on a key, where the low number rises over
-- captured ones, and on both sides of a cut in its fences; and so is the leaf of two neighbours, each of which has
-- captured the log's numbers on its keys up to the low number of both. Where only Session records, if any, stand above
-- an end up to its low number, it is honest for the log up to that end once what is above is taken back
pub record LeafLaw : Type 0 where
  pub performs : (log : List Record) (leaf : LeafView) (n : ℕ) (o : Op) → IsHonestLeaf log leaf → IsNextOn log leaf n o
      → IsHonestLeaf log (performed leaf n o)
  pub raises : (log : List Record) (leaf : LeafView) (l : ℕ) → IsHonestLeaf log leaf → IsCapturedTo log leaf l
      → IsHonestLeaf log (raised_to leaf l)
  pub lower : (log : List Record) (leaf : LeafView) (k : Bytes) (d : ℕ) → IsHonestLeaf log leaf
      → is_in_fences leaf k ≡ true
      → IsHonestLeaf log (lower_of leaf k d)
  pub upper : (log : List Record) (leaf : LeafView) (k : Bytes) (id d : ℕ) → IsHonestLeaf log leaf
      → is_in_fences leaf k ≡ true
      → IsHonestLeaf log (upper_of leaf k id d)
  pub joins : (log : List Record) (left right : LeafView) (d : ℕ) → IsLeaf left → IsLeaf right
      → AreNeighbours left right
      → IsHonestLeaf log left → IsHonestLeaf log right → IsCapturedTo log left right.ab.low
      → IsCapturedTo log right left.ab.low
      → IsHonestLeaf log (joined_of left right d)
  pub takes_back : (newer older : List Record) (leaf : LeafView) → RiseAbove leaf.ab.low leaf.ab.entries
      → IsHonestLeaf (newer ++ older) leaf → AreSessions (newer ++ older) (length older) leaf.ab.low
      → IsHonestLeaf older (taken_back leaf (length older))
