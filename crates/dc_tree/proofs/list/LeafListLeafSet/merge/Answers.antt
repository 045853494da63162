use Rattle.std.proofs.Common.{◌≡◌, true, ap, ◌∙◌}
use Rattle.dc_tree.specs.Lists.{ListView, leaves_in}
use Rattle.dc_tree.specs.Parting.{may_merge_at}
use Rattle.dc_tree.proofs.Stays.{merged_stays}
use Rattle.dc_tree.proofs.list.LeafListLeafSet.merge.Goals as goal

pub invariant_of-self : goal.invariant_of-self
invariant_of-self c =
    let may : may_merge_at (leaves_in c.self.inside.leaves.items) c.args.place ≡ true =
    ap (λ (l : ListView). may_merge_at l.leaves c.args.place) c.self.view_is ∙ c.requires.may in
    rw c.merge_in.ensures (merged_stays (leaves_in c.self.inside.leaves.items) c.args.place
    c.args.merge.merged.value.last c.self.invariant may).leaves
