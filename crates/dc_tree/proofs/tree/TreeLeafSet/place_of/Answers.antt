use Rattle.std.proofs.Common.{ap, ◌∙◌}
use Rattle.dc_tree.specs.Leaves.{place_at}
use Rattle.dc_tree.specs.Lists.{ListView}
use Rattle.dc_tree.proofs.PlaceOf.{place_found}
use Rattle.dc_tree.proofs.tree.TreeLeafSet.place_of.Goals as goal

pub returns-clause-place : goal.returns-clause-place
returns-clause-place c =
    place_found c.self.inside.root.leaves c.args.key.now c.place_of.result c.self.invariant.0 c.place_of.ensures
    ∙ ap (λ (t : ListView). place_at t.leaves c.args.key.now) c.self.view_is
