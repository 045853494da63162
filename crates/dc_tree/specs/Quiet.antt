-- Nodes below which no leaf is large and no two may be joined.
use Rattle.std.specs.Prelude.{◌≡◌, ℕ, suc, ◌-◌, ◌<◌, true, false, List, length, get_or, set}
use Rattle.dc_tree.specs.Choosing.{is_quiet, summary_of}
use Rattle.dc_tree.specs.Nodes.{TreeNodeView, nothing, under}
use Rattle.dc_tree.specs.Parting.{are_few}
use Rattle.dc_tree.specs.declared.tree.summary.Summary.{Summary}

-- what was kept of nodes before the one at a place was changed
pub record WasSummary (nodes : List TreeNodeView) (place : ℕ) (before : Summary) : Type 0 where
  pub node : TreeNodeView
  pub some : 0 < length node.leaves
  pub is : before ≡ summary_of (under (set nodes place node))

-- what is kept of the node at a place
abbrev pub summary_at : List TreeNodeView → ℕ → Summary
summary_at nodes place = summary_of (get_or nodes place nothing).leaves

-- no leaf below the node at a place is large, and none may be joined there or with one of the nodes beside it
pub record IsQuietAt (nodes : List TreeNodeView) (place : ℕ) : Type 0 where
  pub inside : is_quiet (summary_at nodes place) ≡ true
  pub left : 0 < place → are_few (summary_at nodes (place - 1)).last.count (summary_at nodes place).first.count ≡ false
  pub right : suc place < length nodes
      → are_few (summary_at nodes place).last.count (summary_at nodes (suc place)).first.count ≡ false
