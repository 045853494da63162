use Rattle.std.proofs.Common.{List, ℕ, ◌≡◌, [], sym, subst}
use Rattle.node_sides.specs.node_laws.specs.Halves.{node_of}
use Rattle.engine_history.specs.declared.step.Step.{Step}
use Rattle.engine_history.specs.Ending.{LeavesNode}
use Rattle.engine_history.specs.Steps.{TcState, DcState, GivesTc, GivesDc}
use Rattle.engine_history.proofs.event_history.EventHistory.leaves.Goals as goal

pub leaves-requires-clause-tc : goal.leaves-requires-clause-tc
leaves-requires-clause-tc g c = rw c.self.view_is c.requires.tc

pub leaves-requires-clause-dc : goal.leaves-requires-clause-dc
leaves-requires-clause-dc g c = rw c.self.view_is c.requires.dc

pub returns : goal.returns
returns g c =
    subst (λ (es : List Step). LeavesNode g.J.Naming.start es (node_of c.args.tc.now c.args.dc.now [] [])) c.self.view_is
    c.leaves.ensures
