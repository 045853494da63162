-- Nodes of which a list machine tells.
use Rattle.history.specs.ListMachine.{Machine}
use Rattle.node_laws.specs.Node.{NodeView}
use Rattle.node_laws.specs.Kept.{IsKept}
use Rattle.node_laws.specs.Simulation.{NodeStandsFor}

-- there is a list machine that it stands for
pub record StandsForSome (w : NodeView) : Type 0 where
  pub machine : Machine
  pub stands : NodeStandsFor w machine

-- what holds of every node that a program has
pub record IsNode (w : NodeView) : Type 0 where
  pub kept : IsKept w
  pub stood : StandsForSome w
