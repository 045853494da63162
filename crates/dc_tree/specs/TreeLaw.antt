-- What is true of any leaves that have all keys among them.
use Rattle.std.specs.Prelude.{◌≡◌, ℕ, ◌+◌, ◌<◌, true, false, List, get_or, length, map}
use Rattle.std.specs.List.{AllByRecursion}
use Rattle.std.specs.FinMap.{get, entries}
use Rattle.record_key.specs.declared.op.Op.{Op}
use Rattle.record_key.specs.Table.{Bytes, key_of, answer_in, after}
use Rattle.history.specs.declared.record.Record.{Record}
use Rattle.dc_ab_lsn.specs.AbLsn.{captures}
use Rattle.dc_leaf.specs.Leaf.{LeafView, first, is_in_fences, raised_to}
use Rattle.dc_leaf.specs.Honest.{IsHonestLeaf, IsNextOn, IsCapturedTo}
use Rattle.dc_tree.specs.Leaves.{AreLeaves, leaf_at, place_at, all_rows, rows_of}
use Rattle.dc_tree.specs.Parting.{may_split_at, may_merge_at, split_at, merged_at}
use Rattle.dc_tree.specs.Performs.{performed_at}

-- each key has its leaf, in which the table of all has its value
pub record OneTable (leaves : List LeafView) : Type 0 where
  pub within : (k : Bytes) → is_in_fences (leaf_at leaves k) k ≡ true
  pub there : (k : Bytes) → place_at leaves k < length leaves
  pub value : (k : Bytes) → get (rows_of leaves) k ≡ get (leaf_at leaves k).rows k
  pub listed : entries (rows_of leaves) ≡ all_rows leaves

-- a new number does at its leaf what the operation does to the table of all
pub record PerformsOne (leaves : List LeafView) (n : ℕ) (o : Op) : Type 0 where
  pub kept : AreLeaves (performed_at leaves n o)
  pub answer : answer_in (leaf_at leaves (key_of o)).rows o ≡ answer_in (rows_of leaves) o
  pub rows : rows_of (performed_at leaves n o) ≡ after (rows_of leaves) o

-- leaves that were parted, joined or raised have the same table, and are leaves that have all keys among them
pub record SameTable (old new : List LeafView) : Type 0 where
  pub leaves : AreLeaves new
  pub rows : rows_of new ≡ rows_of old

-- each leaf is honest for the log
abbrev pub AreHonestLeaves : List Record → List LeafView → Type 0
AreHonestLeaves log leaves = AllByRecursion (IsHonestLeaf log) leaves

-- the leaf at a place and the one after it have each captured the log's numbers on its keys up to the other's low number
pub record AreCapturedAt (log : List Record) (leaves : List LeafView) (p : ℕ) : Type 0 where
  pub left : IsCapturedTo log (get_or leaves p first) (get_or leaves (p + 1) first).ab.low
  pub right : IsCapturedTo log (get_or leaves (p + 1) first) (get_or leaves p first).ab.low

-- what is true of leaves that have every key once among them: they are one table, a new number does to it what it does
-- at its leaf, raised low numbers, splits and merges leave it, and honest leaves stay honest
pub record TreeLaw : Type 0 where
  pub one : (leaves : List LeafView) → AreLeaves leaves → OneTable leaves
  pub performs : (leaves : List LeafView) (n : ℕ) (o : Op) → AreLeaves leaves
      → captures (leaf_at leaves (key_of o)).ab n ≡ false → PerformsOne leaves n o
  pub raises : (leaves : List LeafView) (l : ℕ) → AreLeaves leaves
      → SameTable leaves (map (λ leaf. raised_to leaf l) leaves)
  pub splits : (leaves : List LeafView) (p id d : ℕ) → AreLeaves leaves → may_split_at leaves p ≡ true
      → SameTable leaves (split_at p id d leaves)
  pub merges : (leaves : List LeafView) (p d : ℕ) → AreLeaves leaves → may_merge_at leaves p ≡ true
      → SameTable leaves (merged_at p d leaves)
  pub performed_honest : (log : List Record) (leaves : List LeafView) (n : ℕ) (o : Op) → AreHonestLeaves log leaves
      → IsNextOn log (leaf_at leaves (key_of o)) n o → AreHonestLeaves log (performed_at leaves n o)
  pub raised_honest : (log : List Record) (leaves : List LeafView) (l : ℕ) → AreHonestLeaves log leaves
      → AllByRecursion (λ (leaf : LeafView). IsCapturedTo log leaf l) leaves
      → AreHonestLeaves log (map (λ leaf. raised_to leaf l) leaves)
  pub split_honest : (log : List Record) (leaves : List LeafView) (p id d : ℕ) → AreLeaves leaves
      → may_split_at leaves p ≡ true → AreHonestLeaves log leaves → AreHonestLeaves log (split_at p id d leaves)
  pub merged_honest : (log : List Record) (leaves : List LeafView) (p d : ℕ) → AreLeaves leaves
      → may_merge_at leaves p ≡ true → AreHonestLeaves log leaves → AreCapturedAt log leaves p
      → AreHonestLeaves log (merged_at p d leaves)
