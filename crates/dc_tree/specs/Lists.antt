-- Leaves in boxes, one after another.
use Rattle.std.specs.Prelude.{ℕ, Bool, false, not, List, Option, Some, map, Box}
use Rattle.std.specs.declared.alloc.Global.{Global}
use Rattle.record_key.specs.Table.{Bytes}
use Rattle.record_key.specs.Order.{is_below}
use Rattle.dc_leaf.specs.Leaf.{LeafView}

-- the leaf that a box holds, and the leaves that boxes hold
abbrev pub leaf_of : Box LeafView Global → LeafView
leaf_of b = b.value

abbrev pub leaves_in : List (Box LeafView Global) → List LeafView
leaves_in boxes = map leaf_of boxes

-- the leaves of a list, and for how many more it has room
pub record ListView : Type 0 where
  pub leaves : List LeafView
  pub room : ℕ

-- a low fence is at or above the end of a range
abbrev pub is_past : Option Bytes → Option Bytes → Bool
is_past (Some fence) (Some high) = not (is_below fence high)
is_past _ _ = false
