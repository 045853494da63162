-- Where a place or a key is found, among leaves and among nodes.
use Rattle.std.specs.Prelude.{◌≡◌, ℕ, suc, ◌+◌, ◌-◌, ◌<◌, true, false, List, length, get_or, take, Some, is_some}
use Rattle.record_key.specs.Table.{Bytes}
use Rattle.record_key.specs.Order.{starts_at_most}
use Rattle.dc_leaf.specs.Leaf.{LeafView, first, is_in_fences}
use Rattle.dc_tree.specs.Choosing.{first_large, first_pair}
use Rattle.dc_tree.specs.Nodes.{TreeNodeView, nothing, under, low_of}

-- a place among leaves is this one in the i-th of the nodes that hold them
pub record IsIn (nodes : List TreeNodeView) (place i rest : ℕ) : Type 0 where
  pub there : i < length nodes
  pub within : rest < length (get_or nodes i nothing).leaves
  pub is : place ≡ length (under (take i nodes)) + rest

-- the i-th of some nodes begins at the key or below, and the next one above it
pub record IsNodeOf (nodes : List TreeNodeView) (k : Bytes) (i : ℕ) : Type 0 where
  pub there : i < length nodes
  pub starts : 0 < i → starts_at_most (low_of (get_or nodes i nothing).leaves) k ≡ true
  pub ends : suc i < length nodes → starts_at_most (low_of (get_or nodes (suc i) nothing).leaves) k ≡ false

-- the first large leaf to be tended below some nodes lies below the i-th of them, after so many others
pub record IsLargeIn (known : ℕ) (nodes : List TreeNodeView) (i before : ℕ) : Type 0 where
  pub there : i < length nodes
  pub large : is_some (first_large known (get_or nodes i nothing).leaves) ≡ true
  pub is : (place : ℕ) → first_large known (get_or nodes i nothing).leaves ≡ Some place
      → first_large known (under nodes) ≡ Some (before + place)

-- the first pair below some nodes lies below the i-th of them, or begins with its last leaf, after so many others
pub record IsPairIn (known : ℕ) (nodes : List TreeNodeView) (i before : ℕ) : Type 0 where
  pub there : i < length nodes
  pub inside : (place : ℕ) → first_pair known (get_or nodes i nothing).leaves ≡ Some place
      → first_pair known (under nodes) ≡ Some (before + place)
  pub across : is_some (first_pair known (get_or nodes i nothing).leaves) ≡ false
      → first_pair known (under nodes) ≡ Some (before + (length (get_or nodes i nothing).leaves - 1))

-- the leaf at a place begins at the key or below, and the next one above it
pub record IsPlaceOf (leaves : List LeafView) (k : Bytes) (p : ℕ) : Type 0 where
  pub there : p < length leaves
  pub starts : 0 < p → starts_at_most (get_or leaves p first).low_fence k ≡ true
  pub ends : suc p < length leaves → starts_at_most (get_or leaves (suc p) first).low_fence k ≡ false

-- the leaf at such a place has the key in its fences
abbrev pub IsInside : List LeafView → Bytes → Type 0
IsInside leaves k = (place : ℕ) → IsPlaceOf leaves k place → is_in_fences (get_or leaves place first) k ≡ true

-- the leaf that stands at such a place
pub record IsLeafOf (leaves : List LeafView) (k : Bytes) (leaf : LeafView) : Type 0 where
  pub place : ℕ
  pub at : IsPlaceOf leaves k place
  pub is : leaf ≡ get_or leaves place first
