use Rattle.std.proofs.Common.{◌≡◌, ap, ◌∙◌}
use Rattle.std.specs.FinMap as map
use Rattle.dc_leaf.specs.Leaf.{LeafView}
use Rattle.dc_tree.specs.Leaves.{leaf_at, place_at}
use Rattle.dc_tree.specs.Lists.{leaf_of, leaves_in}
use Rattle.dc_tree.proofs.Searching.{found}
use Rattle.dc_tree.proofs.list.LeafListLeafSet.get.Goals as goal

pub returns : goal.returns
returns c =
    let xs = c.self.inside.leaves.items in
    let k = c.args.key.now in
    let place : c.place_in.result ≡ place_at (leaves_in xs) k =
    rw c.as_slice.ensures.value at c.place_in.ensures.place in
    let leaf : c.deref.result.now ≡ leaf_at (leaves_in xs) k =
    c.deref.ensures ∙ found leaf_of xs k c.place_in.result c.index.result.now c.self.invariant place
    c.index.ensures in
    rw (← c.self.view_is) (c.get.ensures ∙ ap (λ (l : LeafView). map.get l.rows k) leaf)
