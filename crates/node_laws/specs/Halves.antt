-- What one event does to one of the two components, whatever the rest of the node is: messages are handed to it and out
-- of it.
use Rattle.std.specs.Prelude.{◌≡◌, ℕ, ◌+◌, Bool, true, false, List, [], ◌∷◌, ◌++◌, Option, Some, None, length}
use Rattle.codec.specs.declared.request.Request.{Request}
use Rattle.codec.specs.declared.reply.Reply.{Reply}
use Rattle.codec.specs.Requests.{HasRequestNumbers}
use Rattle.codec.specs.Replies.{IsOrdered}
use Rattle.dc_core.specs.Kept.{IsDc}
use Rattle.tc_core.specs.Kept.{IsTc}
use Rattle.node_laws.specs.declared.event.Event.{Event}
use Rattle.node_laws.specs.declared.event.Event.TheVariants as event
use Rattle.node_laws.specs.declared.event.Out.{Out}
use Rattle.node_laws.specs.Component.{TcSide, DcSide}
use Rattle.node_laws.specs.Messages.{message_at}
use Rattle.node_laws.specs.Node.{NodeView, StepsTo, dc_side}
use Rattle.node_laws.specs.Kept.{IsKept}

-- which component an event is of
abbrev pub of_tc : Event → Bool
of_tc (event.Split k) = false
of_tc (event.Merge k) = false
of_tc event.Tend = false
of_tc (event.Flush k) = false
of_tc (event.Request i) = false
of_tc (event.CrashDc frames bytes) = false
of_tc event.RestartDc = false
of_tc (event.FailDc device call) = false
of_tc _ = true

-- whether it is a crash or a restart
abbrev pub moves : Event → Bool
moves (event.CrashTc frames bytes) = true
moves event.RestartTc = true
moves (event.CrashDc frames bytes) = true
moves event.RestartDc = true
moves _ = false

-- the node that has these components and messages
abbrev pub node_of : TcSide → DcSide → List Request → List Reply → NodeView
node_of tc dc requests replies = record {
  tc_up = tc.up;
  tc = tc.tc;
  dc_up = dc.up;
  dc = dc.dc;
  requests = requests;
  replies = replies;
}

-- one message more, if there is one
abbrev pub also : {A : Type 0} → List A → Option A → List A
also messages None = messages
also messages (Some message) = messages ++ message ∷ []

-- the number of the next message; there may be no room for one
abbrev pub IsNextNumber : {A : Type 0} → List A → Option ℕ → Type 0
IsNextNumber messages None = Unit {0}
IsNextNumber messages (Some n) = n ≡ length messages + 1

-- a message is handed out only where there is room for it
abbrev pub HasRoom : {A : Type 0} → Option ℕ → Option A → Type 0
HasRoom None message = message ≡ None
HasRoom (Some n) message = Unit {0}

-- the reply that an event delivers, if there is one of its number
abbrev pub BringsReply : List Reply → Event → Option Reply → Type 0
BringsReply replies (event.Reply i) reply = message_at replies i ≡ reply
BringsReply replies _ reply = reply ≡ None

-- the same of a request
abbrev pub BringsRequest : List Request → Event → Option Request → Type 0
BringsRequest requests (event.Request i) request = message_at requests i ≡ request
BringsRequest requests _ request = request ≡ None

abbrev pub IsSpelledIf : Option Request → Type 0
IsSpelledIf None = Unit {0}
IsSpelledIf (Some request) = HasRequestNumbers request

abbrev pub IsOrderedIf : Option Reply → Type 0
IsOrderedIf None = Unit {0}
IsOrderedIf (Some reply) = IsOrdered reply

-- whatever the other component and the messages are, the node may do so
abbrev pub TcGives : TcSide → Option ℕ → Event → Option Reply → Out → Option Request → TcSide → Type 0
TcGives old next e reply o request new =
    (dc : DcSide) (requests : List Request) (replies : List Reply) → IsNextNumber requests next
    → BringsReply replies e reply
    → StepsTo (node_of old dc requests replies) e o (node_of new dc (also requests request) replies)

-- an event of the transaction component, which is handed a reply and hands out a request
pub record TcLeads (old : TcSide) (next : Option ℕ) (e : Event) (reply : Option Reply) (o : Out)
    (request : Option Request) (new : TcSide) : Type 0 where
  pub gives : TcGives old next e reply o request new
  pub kept : IsTc new.tc
  pub spelled : IsSpelledIf request
  pub room : HasRoom next request

-- an event of it that neither takes nor sends
abbrev pub TcCalls : TcSide → Event → Out → TcSide → Type 0
TcCalls old e o new =
    (dc : DcSide) (requests : List Request) (replies : List Reply)
    → StepsTo (node_of old dc requests replies) e o (node_of new dc requests replies)

-- one that may send
pub record TcSends (old : TcSide) (next : Option ℕ) (e : Event) (o : Out) (request : Option Request) (new : TcSide)
    : Type 0 where
  pub gives : (dc : DcSide) (requests : List Request) (replies : List Reply) → IsNextNumber requests next
      → StepsTo (node_of old dc requests replies) e o (node_of new dc (also requests request) replies)
  pub spelled : IsSpelledIf request
  pub room : HasRoom next request

-- the one that takes a reply, whatever its number is
abbrev pub TcTakes : TcSide → Option Reply → Out → TcSide → Type 0
TcTakes old reply o new =
    (i : ℕ) (dc : DcSide) (requests : List Request) (replies : List Reply) → message_at replies i ≡ reply
    → StepsTo (node_of old dc requests replies) (event.Reply i) o (node_of new dc requests replies)

-- the same of the data component
abbrev pub DcGives : DcSide → Option ℕ → Event → Option Request → Out → Option Reply → DcSide → Type 0
DcGives old next e request o reply new =
    (tc : TcSide) (requests : List Request) (replies : List Reply) → IsNextNumber replies next
    → BringsRequest requests e request
    → StepsTo (node_of tc old requests replies) e o (node_of tc new requests (also replies reply))

-- an event of the data component, which is handed a request and hands out a reply
pub record DcLeads (old : DcSide) (next : Option ℕ) (e : Event) (request : Option Request) (o : Out)
    (reply : Option Reply) (new : DcSide) : Type 0 where
  pub gives : DcGives old next e request o reply new
  pub kept : IsDc new.dc
  pub spelled : IsOrderedIf reply
  pub room : HasRoom next reply

-- an event of it that neither takes nor replies
abbrev pub DcCalls : DcSide → Event → Out → DcSide → Type 0
DcCalls old e o new =
    (tc : TcSide) (requests : List Request) (replies : List Reply)
    → StepsTo (node_of tc old requests replies) e o (node_of tc new requests replies)

-- the one that takes a request, whatever its number is
pub record DcServes (old : DcSide) (next : Option ℕ) (request : Option Request) (o : Out) (reply : Option Reply)
    (new : DcSide) : Type 0 where
  pub gives : (i : ℕ) (tc : TcSide) (requests : List Request) (replies : List Reply) → IsNextNumber replies next
      → message_at requests i ≡ request
      → StepsTo (node_of tc old requests replies) (event.Request i) o (node_of tc new requests (also replies reply))
  pub spelled : IsOrderedIf reply
  pub room : HasRoom next reply

-- some node that keeps what a node keeps has this data component, and was sent the request that the event delivers
pub record IsInNode (dc : DcSide) (e : Event) (request : Option Request) : Type 0 where
  pub node : NodeView
  pub kept : IsKept node
  pub dc_is : dc_side node ≡ dc
  pub brings : BringsRequest node.requests e request

-- what an event of the data component takes for granted of the node around it
abbrev pub MayDc : DcSide → Event → Option Request → Type 0
MayDc dc (event.Request i) request = IsInNode dc (event.Request i) request × IsSpelledIf request
MayDc dc (event.CrashDc frames bytes) request = IsInNode dc (event.CrashDc frames bytes) request
MayDc dc event.RestartDc request = IsInNode dc event.RestartDc request
MayDc dc _ request = Unit {0}
