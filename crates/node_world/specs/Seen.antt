-- What is seen of the two components and their messages.
use Rattle.node_sides.specs.node_laws.specs.Node.{NodeView}
use Rattle.node_world.specs.declared.node.Node.{Node}

abbrev pub seen : {D P : Type 0} → Node D P → NodeView
seen n = record {
  tc_up = n.tc.up;
  tc = n.tc.tc;
  dc_up = n.dc.up;
  dc = n.dc.dc;
  requests = n.requests.messages;
  replies = n.replies.messages;
}
