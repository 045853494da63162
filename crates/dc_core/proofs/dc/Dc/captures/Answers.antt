use Rattle.std.proofs.Common.{◌∙◌, ap}
use Rattle.dc_ab_lsn.specs.AbLsn.{captures}
use Rattle.dc_leaf.specs.Leaf.{LeafView}
use Rattle.dc_store.proofs.Places.{leaf_there}
use Rattle.dc_core.proofs.dc.Dc.captures.Goals as goal

pub returns : goal.returns
returns g c =
    let at = c.place_of-place.ensures in
    rw (← c.self.view_is) (c.captures-2.ensures
    ∙ ap (λ (leaf : LeafView). captures leaf.ab c.args.number)
    (c.leaf.ensures
    ∙ leaf_there c.self.inside.system.leaves c.args.key.now c.place_of-place.result at.place at.within))
