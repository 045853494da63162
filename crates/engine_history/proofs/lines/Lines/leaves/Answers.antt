use Rattle.std.proofs.Common.{List, [], sym, subst}
use Rattle.node_sides.specs.node_laws.specs.Halves.{node_of}
use Rattle.engine_history.specs.declared.step.Step.{Step}
use Rattle.engine_history.specs.Ending.{LeavesNode}
use Rattle.engine_history.specs.Steps.{TcState, DcState, GivesTc, GivesDc}
use Rattle.engine_history.proofs.Entering.{lines_leave}
use Rattle.engine_history.proofs.lines.Lines.leaves.Goals as goal

pub returns : goal.returns
returns g c =
    let J = g.J.Naming in
    let s = c.self.inside in
    let t : TcState = record { side = c.args.tc.now; sent = c.requires.tc.0 } in
    let u : DcState = record { side = c.args.dc.now; given = c.requires.dc.0 } in
    subst (λ (es : List Step). LeavesNode g.J.Naming.start es (node_of t.side u.side [] [])) c.self.view_is
    (lines_leave J.start J.entries J.names s.tokens.items s.asked.items s.given.items s.tc s.dc t u c.self.invariant
    (subst (λ (es : List Step). GivesTc g.J.Naming.start es t) (sym c.self.view_is) c.requires.tc.1)
    (subst (λ (es : List Step). GivesDc g.J.Naming.start es u) (sym c.self.view_is) c.requires.dc.1))
