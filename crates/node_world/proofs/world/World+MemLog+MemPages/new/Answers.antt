use Rattle.std.proofs.Common.{sym, subst}
use Rattle.history.specs.ListMachine.{fresh}
use Rattle.node_sides.specs.dc_core.specs.Kept.{IsDc}
use Rattle.node_sides.specs.node_laws.specs.Node.{NodeView}
use Rattle.node_sides.specs.node_laws.specs.Simulation.{NodeStandsFor}
use Rattle.node_sides.specs.node_laws.specs.Standing.{IsNode}
use Rattle.node_sides.specs.node_laws.proofs.Machine.Headline.{kept_fresh, fresh_stands_for}
use Rattle.node_world.proofs.world.World+MemLog+MemPages.new.Goals as goal

pub invariant_of-result : goal.invariant_of-result
invariant_of-result c =
    let Dc : NodeView → Type 0 = λ w. IsDc w.dc in
    subst IsNode (sym c.in_ok-new.ensures.fresh) (record {
      kept = kept_fresh (subst Dc c.in_ok-new.ensures.fresh c.in_ok-new.ensures.dc);
      stood = record { machine = fresh; stands = fresh_stands_for };
    })

pub returns-clause-stands : goal.returns-clause-stands
returns-clause-stands c = let P : NodeView → Type 0 = λ w. NodeStandsFor w fresh in
    subst P (sym c.in_ok-new.ensures.fresh) fresh_stands_for
