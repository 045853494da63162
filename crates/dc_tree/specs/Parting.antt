-- Which leaves may be split and joined, and what the leaves are then.
use Rattle.std.specs.Prelude.{◌≡◌, ℕ, zero, suc, ◌+◌, ◌/◌, nat_le, nat_lt, Bool, false, not, ◌&&◌, Option, Some, None}
use Rattle.std.specs.Prelude.{List, [], ◌∷◌, length, slice_get}
use Rattle.std.specs.FinMap as map
use Rattle.record_key.specs.declared.refusal.Refusal.{Refusal}
use Rattle.record_key.specs.declared.refusal.Refusal.TheVariants.{NotNow}
use Rattle.record_key.specs.FirstCause.{first_of}
use Rattle.record_key.specs.Table.{Bytes}
use Rattle.record_key.specs.Rows.{Row}
use Rattle.dc_leaf.specs.Leaf.{LeafView}
use Rattle.dc_leaf.specs.Parting.{upper_of, lower_of, joined_of}
use Rattle.dc_tree.specs.declared.parting.Split.{Split}
use Rattle.dc_tree.specs.declared.parting.Merge.{Merge}

-- how many records a leaf has
abbrev pub count : LeafView → ℕ
count leaf = length (map.entries leaf.rows)

abbrev pub key_in : Option Row → Bytes
key_in None = []
key_in (Some row) = row.0

-- the key at which a leaf is split: half of its records, rounded down, are below it
abbrev pub middle : LeafView → Bytes
middle leaf = key_in (slice_get (map.entries leaf.rows) (count leaf / 2))

-- a leaf may be split where it has two records at least, and is large above eight
abbrev pub may_split : LeafView → Bool
may_split leaf = nat_le 2 (count leaf)

abbrev pub is_many : ℕ → Bool
is_many n = nat_lt 8 n

abbrev pub is_large : LeafView → Bool
is_large leaf = is_many (count leaf)

-- two neighbours may be joined where the left one has fewer than three records and both have six at most
abbrev pub are_few : ℕ → ℕ → Bool
are_few left right = nat_lt left 3 && nat_le (left + right) 6

abbrev pub may_join : LeafView → LeafView → Bool
may_join left right = are_few (count left) (count right)

-- the leaf at a place may be split, and may be joined with the one after it
abbrev pub may_split_at : List LeafView → ℕ → Bool
may_split_at [] p = false
may_split_at (leaf ∷ leaves) zero = may_split leaf
may_split_at (leaf ∷ leaves) (suc p) = may_split_at leaves p

abbrev pub may_merge_at : List LeafView → ℕ → Bool
may_merge_at [] p = false
may_merge_at (leaf ∷ []) p = false
may_merge_at (left ∷ right ∷ leaves) zero = may_join left right
may_merge_at (left ∷ right ∷ leaves) (suc p) = may_merge_at (right ∷ leaves) p

-- what a split or a merge is refused for where it may not be done
abbrev pub unless_may : Bool → Option Refusal
unless_may may = first_of ((not may, NotNow) ∷ [])

-- the leaf at a place parted in its middle: the new right leaf has this number, and system transaction d did it
abbrev pub split_at : ℕ → ℕ → ℕ → List LeafView → List LeafView
split_at p id d [] = []
split_at zero id d (leaf ∷ leaves) = lower_of leaf (middle leaf) d ∷ upper_of leaf (middle leaf) id d ∷ leaves
split_at (suc p) id d (leaf ∷ leaves) = leaf ∷ split_at p id d leaves

-- the leaf at a place and the one after it as one leaf, under the left one's number
abbrev pub merged_at : ℕ → ℕ → List LeafView → List LeafView
merged_at p d [] = []
merged_at p d (leaf ∷ []) = leaf ∷ []
merged_at zero d (left ∷ right ∷ leaves) = joined_of left right d ∷ leaves
merged_at (suc p) d (left ∷ right ∷ leaves) = left ∷ merged_at p d (right ∷ leaves)

-- what a split of a leaf puts beside it
pub record IsSplitOf (leaf : LeafView) (id d : ℕ) (split : Split) : Type 0 where
  pub left : split.left ≡ leaf.id
  pub cut : split.cut ≡ middle leaf
  pub right : split.right.value ≡ upper_of leaf (middle leaf) id d

-- what a merge of two puts in their place
pub record IsMergeOf (left right : LeafView) (d : ℕ) (merge : Merge) : Type 0 where
  pub gone : merge.right ≡ right.id
  pub merged : merge.merged.value ≡ joined_of left right d
