-- What a node's transaction component does, as a step of the node.
use Rattle.std.specs.Prelude.{Option}
use Rattle.codec.specs.declared.request.Request.{Request}
use Rattle.node_sides.specs.node_laws.specs.declared.event.Event.{Event}
use Rattle.node_sides.specs.node_laws.specs.declared.event.Out.{Out}
use Rattle.node_sides.specs.node_laws.specs.Component.{TcSide}
use Rattle.node_sides.specs.node_laws.specs.Halves.{node_of, also}
use Rattle.node_sides.specs.node_laws.specs.Node.{StepsTo}
use Rattle.node_world.specs.declared.node.Node.{Node}
use Rattle.node_world.specs.Seen.{seen}

-- the node may do so: that component becomes this and hands out that
abbrev pub DoesTc : {D P : Type 0} → Node D P → Event → Out → TcSide → Option Request → Type 0
DoesTc n e o new request =
    StepsTo (seen n) e o (node_of new n.dc (also n.requests.messages request) n.replies.messages)
