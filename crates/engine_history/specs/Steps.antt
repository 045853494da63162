-- What each component's steps in a list give, and what the whole list is: a run of the node.
use Rattle.std.specs.Prelude.{◌≡◌, ℕ, ◌+◌, Bool, true, List, [], ◌∷◌, Option, Some, None, map}
use Rattle.std.specs.Bool.{MatchBool}
use Rattle.codec.specs.declared.request.Request.{Request}
use Rattle.codec.specs.declared.reply.Reply.{Reply}
use Rattle.stable.specs.Usage.{unused}
use Rattle.node_sides.specs.tc_core.specs.TcView.{fresh_tc}
use Rattle.node_sides.specs.dc_core.specs.DcView.{fresh_dc}
use Rattle.node_sides.specs.node_laws.specs.declared.event.Event.{Event}
use Rattle.node_sides.specs.node_laws.specs.declared.event.Out.{Out}
use Rattle.node_sides.specs.node_laws.specs.Component.{TcSide, DcSide}
use Rattle.node_sides.specs.node_laws.specs.Halves.{node_of, of_tc, also, BringsReply, BringsRequest, TcLeads, DcLeads}
use Rattle.node_sides.specs.node_laws.specs.Kept.{IsKept}
use Rattle.node_sides.specs.node_laws.specs.Node.{NodeView}
use Rattle.node_sides.specs.node_laws.specs.Standing.{StandsForSome, IsNode}
use Rattle.node_sides.specs.node_laws.specs.Stepping.{Chain}
use Rattle.engine_history.specs.declared.step.Step.{Step}

abbrev pub is_tc : Step → Bool
is_tc e = of_tc e.event

abbrev pub events : List Step → List Event
events es = map (λ e. e.event) es

abbrev pub outs : List Step → List Out
outs es = map (λ e. e.out) es

-- the messages that were sent, the oldest first: what the node has of them
abbrev pub asked_after : List Request → List Step → List Request
asked_after requests [] = requests
asked_after requests (e ∷ es) = asked_after (also requests e.sent) es

abbrev pub given_after : List Reply → List Step → List Reply
given_after replies [] = replies
given_after replies (e ∷ es) = given_after (also replies e.given) es

abbrev pub requests : List Step → List Request
requests es = asked_after [] es

abbrev pub replies : List Step → List Reply
replies es = given_after [] es

-- the transaction component, and how many requests it has sent
pub record TcState : Type 0 where
  pub side : TcSide
  pub sent : ℕ

-- the data component, and how many replies it has given
pub record DcState : Type 0 where
  pub side : DcSide
  pub given : ℕ

abbrev pub count : {A : Type 0} → Option A → ℕ
count None = 0
count (Some a) = 1

-- the components of the node with which a history begins; nothing was sent between them
pub record Start : Type 0 where
  pub tc : TcSide
  pub dc : DcSide

abbrev pub node_at : Start → NodeView
node_at start = node_of start.tc start.dc [] []

-- where a history may begin: what holds of every node holds of it
abbrev pub IsStart : Start → Type 0
IsStart start = IsNode (node_at start)

-- both components run, and nothing is logged or stored
abbrev pub fresh_start : Start
fresh_start = record { tc = record { up = true; tc = fresh_tc unused }; dc = record { up = true; dc = fresh_dc unused unused } }

abbrev pub tc_start : Start → TcState
tc_start start = record { side = start.tc; sent = 0 }

abbrev pub dc_start : Start → DcState
dc_start start = record { side = start.dc; given = 0 }

-- a step of the transaction component, which is handed one of these replies if it takes one
pub record TcStep (replies : List Reply) (old : TcState) (e : Step) (new : TcState) : Type 0 where
  pub reply : Option Reply
  pub brings : BringsReply replies e.event reply
  pub leads : TcLeads old.side (Some (old.sent + 1)) e.event reply e.out e.sent new.side
  pub sent : new.sent ≡ old.sent + count e.sent
  pub none : e.given ≡ None

-- the same of the data component and the requests
pub record DcStep (requests : List Request) (old : DcState) (e : Step) (new : DcState) : Type 0 where
  pub request : Option Request
  pub brings : BringsRequest requests e.event request
  pub leads : DcLeads old.side (Some (old.given + 1)) e.event request e.out e.given new.side
  pub given : new.given ≡ old.given + count e.given
  pub none : e.sent ≡ None

-- what the entries give of each component, from these replies and requests on
abbrev pub TcAlong : List Reply → TcState → List Step → TcState → Type 0
TcAlong replies s [] t = s ≡ t
TcAlong replies s (e ∷ es) t =
    MatchBool (is_tc e) ((mid : TcState) × TcStep replies s e mid × TcAlong (also replies e.given) mid es t)
    (TcAlong (also replies e.given) s es t)

abbrev pub DcAlong : List Request → DcState → List Step → DcState → Type 0
DcAlong requests s [] t = s ≡ t
DcAlong requests s (e ∷ es) t =
    MatchBool (is_tc e) (DcAlong (also requests e.sent) s es t)
    ((mid : DcState) × DcStep requests s e mid × DcAlong (also requests e.sent) mid es t)

-- what the entries give of a component
abbrev pub GivesTc : Start → List Step → TcState → Type 0
GivesTc start es s = TcAlong [] (tc_start start) es s

abbrev pub GivesDc : Start → List Step → DcState → Type 0
GivesDc start es s = DcAlong [] (dc_start start) es s

-- the steps are a run of the node, from its start on, which leaves it so
pub record RunsTo (start : Start) (es : List Step) (w : NodeView) : Type 0 where
  pub chain : Chain (node_at start) (events es) (outs es) w
  pub kept : IsKept w
  pub stood : StandsForSome w
  pub requests : w.requests ≡ requests es
  pub replies : w.replies ≡ replies es

abbrev pub RunsFrom : Start → List Step → Type 0
RunsFrom start es = (w : NodeView) × RunsTo start es w
