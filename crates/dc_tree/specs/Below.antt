-- What is seen of a node, and what holds at each.
use Rattle.std.specs.Prelude.{◌≡◌, ℕ, ◌^◌, ◌<◌, ◌≤◌, length, Option, Vec}
use Rattle.std.specs.Vec.{vec_capacity}
use Rattle.std.specs.declared.alloc.Global.{Global}
use Rattle.record_key.specs.Table.{Bytes}
use Rattle.dc_tree.specs.Choosing.{summary_of}
use Rattle.dc_tree.specs.Nodes.{TreeNodeView, over_leaf, over_nodes, low_of, height_in, AreChildren}
use Rattle.dc_tree.specs.declared.tree.node.Below.{Below}
use Rattle.dc_tree.specs.declared.tree.summary.Summary.{Summary}
use Rattle.dc_tree.specs.declared.tree.node.Below.TheVariants.{Leaf, Inner}

abbrev pub seen : Below → TreeNodeView
seen (Leaf leaf) = over_leaf leaf.value
seen (Inner nodes) = over_nodes nodes.items

-- the children are whole and at one height, and their block has room for one more than eight
pub record AreBelow (nodes : Vec TreeNodeView Global) : Type 0 where
  pub children : AreChildren (height_in nodes.items) nodes.items
  pub most : length nodes.items ≤ 8
  pub room : 0 < length nodes.items → 8 < vec_capacity nodes

abbrev pub IsBelow : Below → Type 0
IsBelow (Leaf leaf) = Unit {0}
IsBelow (Inner nodes) = AreBelow nodes

-- a node knows where its leaves begin, how many they are and what decides which of them are tended first
pub record IsNode (low : Option Bytes) (count : ℕ) (summary : Summary) (below : Below) : Type 0 where
  pub begins : low ≡ low_of (seen below).leaves
  pub counted : count ≡ length (seen below).leaves
  pub fits : count < 2 ^ 64
  pub summed : summary ≡ summary_of (seen below).leaves
  pub under_it : IsBelow below
