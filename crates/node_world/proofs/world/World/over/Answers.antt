use Rattle.std.proofs.Common.{◌≡◌, ◌∙◌, [], sym, ap, subst}
use Rattle.node_sides.specs.dc_core.specs.DcView.{fresh_dc}
use Rattle.node_sides.specs.dc_core.specs.Kept.{IsDc}
use Rattle.simulation.specs.Reading.{machine_read}
use Rattle.simulation.proofs.Reading.{opened_is_read}
use Rattle.node_sides.specs.tc_core.specs.TcView.{TcView}
use Rattle.node_sides.specs.node_laws.specs.Halves.{node_of}
use Rattle.node_sides.specs.node_laws.specs.Node.{NodeView, joined}
use Rattle.node_world.specs.Seen.{seen}
use Rattle.node_sides.specs.node_laws.specs.Simulation.{NodeStandsFor}
use Rattle.node_sides.specs.node_laws.specs.Standing.{IsNode}
use Rattle.node_sides.specs.node_laws.proofs.Machine.Opened.{kept_joined}
use Rattle.node_sides.specs.node_laws.proofs.Restarts.TcCrashes.{stands_over}
use Rattle.node_world.proofs.world.World.over.Goals as goal

pub invariant_of-result : goal.invariant_of-result
invariant_of-result g c =
    let w = c.args.tc in
    let log = c.requires.log in
    let empty = c.requires.empty in
    let m = machine_read w.log in
    let is : seen c.of-3.result ≡ joined w (fresh_dc empty.0 empty.1) =
    c.of-3.ensures ∙ (λ i. node_of (c.of.ensures i) (c.of-2.ensures i) [] []) ∙ ap (joined w) empty.2 in
    subst IsNode (sym is) (record {
      kept = kept_joined w empty.0 empty.1 c.kept.ensures log.right (ap (λ (t : TcView). t.stable) log.opened.is)
          (ap (λ (t : TcView). t.session) log.opened.is) (ap (λ (t : TcView). t.phase) log.opened.is) log.unchecked
          (subst IsDc empty.2 c.kept-2.ensures);
      stood = record {
        machine = m;
        stands = stands_over log.bytes log.usage w m c.kept.ensures log.opened (opened_is_read w.log c.kept.ensures.legal);
      };
    })

pub returns-clause-stands : goal.returns-clause-stands
returns-clause-stands g c =
    let w = c.args.tc in
    let log = c.requires.log in
    let m = machine_read w.log in
    let is : seen c.of-3.result ≡ joined w c.args.dc =
    c.of-3.ensures ∙ (λ i. node_of (c.of.ensures i) (c.of-2.ensures i) [] []) in
    subst (λ (x : NodeView). NodeStandsFor x m) (sym is)
    (stands_over log.bytes log.usage w m c.kept.ensures log.opened (opened_is_read w.log c.kept.ensures.legal))
