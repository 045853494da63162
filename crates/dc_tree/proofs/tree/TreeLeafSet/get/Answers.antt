use Rattle.std.proofs.Common.{ap, ◌∙◌}
use Rattle.std.specs.FinMap as map
use Rattle.dc_leaf.specs.Leaf.{LeafView}
use Rattle.dc_tree.specs.Leaves.{leaf_at}
use Rattle.dc_tree.specs.Lists.{ListView}
use Rattle.dc_tree.proofs.Among.{leaf_found}
use Rattle.dc_tree.proofs.tree.TreeLeafSet.get.Goals as goal

pub returns : goal.returns
returns c =
    let k = c.args.key.now in
    let leaf = c.leaf_of.ensures in
    c.get.ensures
    ∙ ap (λ (l : LeafView). map.get l.rows k)
    (leaf.is ∙ leaf_found c.self.inside.root.leaves k leaf.place c.self.invariant.0 leaf.at)
    ∙ ap (λ (t : ListView). map.get (leaf_at t.leaves k).rows k) c.self.view_is
