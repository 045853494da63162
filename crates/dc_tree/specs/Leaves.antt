-- Leaves in key order, which have all keys among them, and the one table that their records are.
use Rattle.std.specs.Prelude.{ℕ, ◌+◌, List, [], ◌∷◌, ◌++◌, if◌then◌else◌}
use Rattle.std.specs.List.{AllByRecursion}
use Rattle.std.specs.FinMap as map
use Rattle.record_key.specs.Table.{Bytes, Table}
use Rattle.record_key.specs.Rows.{Row, table_of}
use Rattle.dc_leaf.specs.Leaf.{LeafView, IsLeaf, first, is_in_fences}
use Rattle.dc_leaf.specs.Tiles.{Tile, parts_of}

-- each is a leaf, and each key lies in the fences of just one of them
pub record AreLeaves (leaves : List LeafView) : Type 0 where
  pub each : AllByRecursion IsLeaf leaves
  pub tile : Tile (parts_of leaves)

-- the leaf that has the key
abbrev pub leaf_at : List LeafView → Bytes → LeafView
leaf_at [] k = first
leaf_at (leaf ∷ leaves) k = if is_in_fences leaf k then leaf else leaf_at leaves k

-- its place among them, from 0
abbrev pub place_at : List LeafView → Bytes → ℕ
place_at [] k = 0
place_at (leaf ∷ leaves) k = if is_in_fences leaf k then 0 else place_at leaves k + 1

-- the leaves with that one changed, and the others as they were
abbrev pub changed_at : Bytes → (LeafView → LeafView) → List LeafView → List LeafView
changed_at k change [] = []
changed_at k change (leaf ∷ leaves) =
    if is_in_fences leaf k then change leaf ∷ leaves else leaf ∷ changed_at k change leaves

-- the records of all leaves, in key order
abbrev pub all_rows : List LeafView → List Row
all_rows [] = []
all_rows (leaf ∷ leaves) = map.entries leaf.rows ++ all_rows leaves

abbrev pub rows_of : List LeafView → Table
rows_of leaves = table_of (all_rows leaves)
