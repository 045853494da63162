-- What serving a request does, whatever the rest of the node is.
use Rattle.std.specs.Prelude.{◌≡◌, ℕ, List, Some}
use Rattle.codec.specs.declared.request.Request.{Request}
use Rattle.codec.specs.declared.reply.Reply.{Reply}
use Rattle.node_sides.specs.node_laws.specs.declared.event.Event.TheVariants as event
use Rattle.node_sides.specs.node_laws.specs.declared.event.Out.{Out}
use Rattle.node_sides.specs.node_laws.specs.Component.{TcSide, DcSide}
use Rattle.node_sides.specs.node_laws.specs.Halves.{node_of}
use Rattle.node_sides.specs.node_laws.specs.Messages.{message_at}
use Rattle.node_sides.specs.node_laws.specs.Node.{StepsTo}

-- a node that has sent this request, under whatever number, may serve it so
abbrev pub ServesRequest : DcSide → List Reply → Request → Out → DcSide → List Reply → Type 0
ServesRequest old replies q o new after =
    (i : ℕ) (tc : TcSide) (requests : List Request) → message_at requests i ≡ Some q
    → StepsTo (node_of tc old requests replies) (event.Request i) o (node_of tc new requests after)
