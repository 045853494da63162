-- A node lies above its children.
use Rattle.std.specs.Prelude.{ℕ, suc, ◌+◌, ◌≤◌, max, List, [], ◌∷◌, Option}
use Rattle.std.proofs.Common.{arith}
use denote.Param.Weighed.{most}
use Rattle.record_key.specs.Table.{Bytes}
use Rattle.dc_tree.specs.Nodes.{TreeNodeView, height_in, AreChildren}
use Rattle.dc_tree.specs.declared.tree.node.Below.{Below}
use Rattle.dc_tree.specs.declared.tree.node.Below.TheVariants.{Leaf, Inner}
use Rattle.dc_tree.specs.declared.tree.summary.Summary.{Summary}
use Rattle.dc_tree.specs.declared.tree.node.Node.TheDeep.{deep-Below}
use Rattle.dc_tree.specs.Below.{seen, IsNode, IsBelow}

most_below : (height : ℕ) (nodes : List TreeNodeView) → AreChildren height nodes
    → most (λ (n : TreeNodeView). n.height + 1) nodes ≤ suc height
most_below height [] are = omega arith
most_below height (node ∷ nodes) are = omega (arith, are.0.level, most_below height nodes are.1)

deepest : (below : Below) → IsBelow below → deep-Below below ≤ (seen below).height
deepest (Leaf leaf) is = omega arith
deepest (Inner nodes) is = omega (arith, most_below (height_in nodes.items) nodes.items is.children)

pub children_lower : (low : Option Bytes) (count : ℕ) (summary : Summary) (below : Below)
    → IsNode low count summary below → max (deep-Below below) 0 ≤ (seen below).height
children_lower low count summary below kept = omega (arith, deepest below kept.under_it)
