-- A tree of leaves, node by node: a node is seen with the leaves below it and how many levels they lie down.
use Rattle.std.specs.Prelude.{◌≡◌, ℕ, suc, ◌<◌, ◌≤◌, List, [], ◌∷◌, ◌++◌, length, get_or, set, map, Option, None, Vec}
use Rattle.std.specs.List.{AllByRecursion}
use Rattle.std.specs.Vec.{vec_capacity}
use Rattle.std.specs.declared.alloc.Global.{Global}
use Rattle.record_key.specs.Table.{Bytes}
use Rattle.dc_leaf.specs.Leaf.{LeafView, first, raised_to}

-- the leaves below a node in key order, the levels between, and how many children it has; a leaf has none
pub record TreeNodeView : Type 0 where
  pub leaves : List LeafView
  pub height : ℕ
  pub kids : ℕ

abbrev pub nothing : TreeNodeView
nothing = record { leaves = []; height = 0; kids = 0 }

abbrev pub over_leaf : LeafView → TreeNodeView
over_leaf leaf = record { leaves = leaf ∷ []; height = 0; kids = 0 }

-- the leaves below nodes, one node after another
abbrev pub under : List TreeNodeView → List LeafView
under [] = []
under (node ∷ nodes) = node.leaves ++ under nodes

-- the height of nodes that are all of one
abbrev pub height_in : List TreeNodeView → ℕ
height_in [] = 0
height_in (node ∷ nodes) = node.height

abbrev pub over_nodes : List TreeNodeView → TreeNodeView
over_nodes nodes = record { leaves = under nodes; height = suc (height_in nodes); kids = length nodes }

-- where the first of some leaves begins
abbrev pub low_of : List LeafView → Option Bytes
low_of [] = None
low_of (leaf ∷ leaves) = leaf.low_fence

-- a node as it stands in a tree: a leaf, or one with two to eight children
pub record IsWhole (node : TreeNodeView) : Type 0 where
  pub some : 0 < length node.leaves
  pub one : node.height ≡ 0 → length node.leaves ≡ 1
  pub two : 0 < node.height → 2 ≤ node.kids
  pub eight : node.kids ≤ 8

-- the same, at this height
pub record IsChild (height : ℕ) (node : TreeNodeView) : Type 0 where
  pub level : node.height ≡ height
  pub whole : IsWhole node

abbrev pub AreChildren : ℕ → List TreeNodeView → Type 0
AreChildren height nodes = AllByRecursion (IsChild height) nodes

-- a node at this height of which a child may have gone: one may be left
pub record IsReduced (height : ℕ) (node : TreeNodeView) : Type 0 where
  pub level : node.height ≡ height
  pub inner : 0 < height
  pub some : 0 < length node.leaves
  pub one : 1 ≤ node.kids
  pub eight : node.kids ≤ 8

-- a node in which the leaf at a place alone is another one, which begins where the old one did
pub record IsChangedAt (place : ℕ) (old new : TreeNodeView) : Type 0 where
  pub leaves : new.leaves ≡ set old.leaves place (get_or new.leaves place first)
  pub height : new.height ≡ old.height
  pub kids : new.kids ≡ old.kids
  pub begins : (get_or new.leaves place first).low_fence ≡ (get_or old.leaves place first).low_fence

-- the node with its leaves counting each request up to this number as performed
abbrev pub raised_node : ℕ → TreeNodeView → TreeNodeView
raised_node low node = record node { leaves = map (λ leaf. raised_to leaf low) node.leaves }

-- blocks in which a node's children have room, and one more
abbrev pub AreSpare : List (Vec TreeNodeView Global) → Type 0
AreSpare blocks = AllByRecursion (λ (block : Vec TreeNodeView Global). (block.items ≡ []) × (8 < vec_capacity block)) blocks
