use Rattle.std.proofs.Common.{◌∙◌, ap, sym, subst}
use Rattle.std.specs.List.{AllByRecursion}
use Rattle.record_key.specs.Table.{Bytes}
use Rattle.dc_leaf.specs.Leaf.{LeafView}
use Rattle.dc_tree.specs.Leaves.{leaf_at}
use Rattle.dc_store.proofs.Places.{leaf_there}
use Rattle.dc_core.specs.Shows.{Follows}
use Rattle.dc_core.proofs.dc.Dc.may_come.Goals as goal

pub returns : goal.returns
returns g c =
    let at = c.place_of-place.ensures in
    let leaves = c.self.inside.system.leaves in
    let read = c.entries.ensures
    ∙ ap (λ (leaf : LeafView). leaf.ab.entries)
    (c.leaf.ensures ∙ leaf_there leaves c.key.result.now c.place_of-place.result at.place at.within
    ∙ ap (λ (k : Bytes). leaf_at leaves k) c.key.ensures) in
    let All = AllByRecursion (Follows c.args.number c.args.op.now) in rw (← c.self.view_is) (
      λ yes. subst All read (c.follows_all.ensures.0 yes),
      λ all. c.follows_all.ensures.1 (subst All (sym read) all),
    )
