-- Every message is lost.
use Rattle.std.specs.Prelude.{[]}
use Rattle.history.specs.ListMachine.{Machine}
use Rattle.node_laws.specs.Node.{NodeView}
use Rattle.node_laws.specs.Kept.{IsKept}
use Rattle.node_laws.specs.Simulation.{NodeStandsFor}
use Rattle.node_laws.specs.Standing.{IsNode}

-- none can be delivered any more, and the next one of each kind is number 1
abbrev pub without_messages : NodeView → NodeView
without_messages w = record { tc_up = w.tc_up; tc = w.tc; dc_up = w.dc_up; dc = w.dc; requests = []; replies = [] }

-- all else that holds of the node survives, and it stands for what it stood for
pub record MessagesMayBeLost : Type 0 where
  pub kept : (w : NodeView) → IsKept w → IsKept (without_messages w)
  pub stands : (w : NodeView) (m : Machine) → NodeStandsFor w m → NodeStandsFor (without_messages w) m
  pub node : (w : NodeView) → IsNode w → IsNode (without_messages w)
