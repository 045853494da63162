use Rattle.std.proofs.Common.{subst, inr}
use Rattle.node_laws.specs.Node.{NodeView}
use Rattle.jakumshe.specs.Calls.{StopsSettling}
use Rattle.jakumshe.proofs.node.Node.new.Goals as goal

pub returns-in-Err-clause-refused : goal.returns-in-Err-clause-refused
returns-in-Err-clause-refused c =
    let left = c.settled.new.self.world in
    inr (left, subst (λ (w : NodeView). StopsSettling w c.in-Err.refusal left) c.in_ok-new.ensures.node c.in-Err.ensures.stops)
