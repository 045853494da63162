-- A component's step goes on from what the component has seen.
use Rattle.std.proofs.Common.{◌≡◌, ℕ, ◌+◌, false, List, Option, Some, None, refl, ap, sym, ◌∙◌, subst}
use Rattle.atomic_table.specs.Seated.{TableId}
use Rattle.codec.specs.declared.request.Request.{Request}
use Rattle.codec.specs.declared.reply.Reply.{Reply}
use Rattle.engine_marks.specs.Seen.{Seen}
use Rattle.node_sides.specs.node_laws.specs.declared.event.Event.{Event}
use Rattle.node_sides.specs.node_laws.specs.declared.event.Event.TheVariants as event
use Rattle.node_sides.specs.node_laws.specs.Component.{TcSide, DcSide}
use Rattle.node_sides.specs.node_laws.specs.Halves.{TcLeads, DcLeads, BringsReply, BringsRequest, IsInNode}
use Rattle.node_sides.specs.node_laws.specs.Messages.{message_at}
use Rattle.engine_history.specs.declared.step.Step.{Step}
use Rattle.engine_history.specs.Latched.{delivers, LatchedTcKept, LatchedDcKept}
use Rattle.engine_history.specs.Kept.{is_dc, HandsReply, HandsRequest, EntersTc, EntersDc, IsInRun, IsSentBy}
use Rattle.engine_history.specs.Steps.{is_tc, requests, replies, TcState, DcState, Start, count, GivesTc, GivesDc}
use Rattle.engine_history.specs.Views.{View, Sees}
use Rattle.engine_history.proofs.Along.{tc_on, dc_on}
use Rattle.engine_history.proofs.Marking.{seat_on}

-- nothing is delivered
record Alone (e : Event) : Type 0 where
  reply : (replies : List Reply) → BringsReply replies e None
  handed : HandsReply e None
  request : (requests : List Request) → BringsRequest requests e None
  given : HandsRequest e None

alone_so : (e : Event) → ((replies : List Reply) → BringsReply replies e None) → HandsReply e None
    → ((requests : List Request) → BringsRequest requests e None) → HandsRequest e None → Alone e
alone_so e a b c d = record { reply = a; handed = b; request = c; given = d }

alone : (e : Event) → delivers e ≡ false → Alone e
alone event.Reconnect is = alone_so event.Reconnect (λ ps. refl) tt (λ qs. refl) tt
alone event.Recover is = alone_so event.Recover (λ ps. refl) tt (λ qs. refl) tt
alone event.Begin is = alone_so event.Begin (λ ps. refl) tt (λ qs. refl) tt
alone (event.Act t op) is = alone_so (event.Act t op) (λ ps. refl) tt (λ qs. refl) tt
alone (event.Get t k) is = alone_so (event.Get t k) (λ ps. refl) tt (λ qs. refl) tt
alone (event.Scan t low high) is = alone_so (event.Scan t low high) (λ ps. refl) tt (λ qs. refl) tt
alone (event.Save t) is = alone_so (event.Save t) (λ ps. refl) tt (λ qs. refl) tt
alone (event.GoBack t s) is = alone_so (event.GoBack t s) (λ ps. refl) tt (λ qs. refl) tt
alone (event.Rollback t) is = alone_so (event.Rollback t) (λ ps. refl) tt (λ qs. refl) tt
alone (event.Commit t) is = alone_so (event.Commit t) (λ ps. refl) tt (λ qs. refl) tt
alone (event.Undo t) is = alone_so (event.Undo t) (λ ps. refl) tt (λ qs. refl) tt
alone event.Force is = alone_so event.Force (λ ps. refl) tt (λ qs. refl) tt
alone (event.Send t) is = alone_so (event.Send t) (λ ps. refl) tt (λ qs. refl) tt
alone (event.LowWater l) is = alone_so (event.LowWater l) (λ ps. refl) tt (λ qs. refl) tt
alone event.Checkpoint is = alone_so event.Checkpoint (λ ps. refl) tt (λ qs. refl) tt
alone event.Tell is = alone_so event.Tell (λ ps. refl) tt (λ qs. refl) tt
alone (event.Split k) is = alone_so (event.Split k) (λ ps. refl) tt (λ qs. refl) tt
alone (event.Merge k) is = alone_so (event.Merge k) (λ ps. refl) tt (λ qs. refl) tt
alone event.Tend is = alone_so event.Tend (λ ps. refl) tt (λ qs. refl) tt
alone (event.Flush k) is = alone_so (event.Flush k) (λ ps. refl) tt (λ qs. refl) tt
alone (event.Request i) is = absurd (cc (is))
alone (event.Reply i) is = absurd (cc (is))
alone (event.CrashTc frames bytes) is = alone_so (event.CrashTc frames bytes) (λ ps. refl) tt (λ qs. refl) tt
alone event.RestartTc is = alone_so event.RestartTc (λ ps. refl) tt (λ qs. refl) tt
alone (event.CrashDc frames bytes) is = alone_so (event.CrashDc frames bytes) (λ ps. refl) tt (λ qs. refl) tt
alone event.RestartDc is = alone_so event.RestartDc (λ ps. refl) tt (λ qs. refl) tt
alone (event.FailTc call) is = alone_so (event.FailTc call) (λ ps. refl) tt (λ qs. refl) tt
alone (event.FailDc device call) is = alone_so (event.FailDc device call) (λ ps. refl) tt (λ qs. refl) tt

-- ---- the transaction component

pub tc_goes : (start : Start) (steps : List Step) (side next : TcSide) (sent after : ℕ) (e : Step) (event : Event)
    (reply : Option Reply) → GivesTc start steps (record { side = side; sent = sent }) → e.event ≡ event
    → TcLeads side (Some (sent + 1)) event reply e.out e.sent next → BringsReply (replies steps) event reply
    → HandsReply event reply → after ≡ sent + count e.sent → e.given ≡ None
    → EntersTc start steps e (record { side = next; sent = after })
tc_goes start steps side next sent after e event reply gives is leads brings handed number none = record {
  old = record { side = side; sent = sent };
  gives = gives;
  step = record {
    reply = reply;
    brings = subst (λ (x : Event). BringsReply (replies steps) x reply) (sym is) brings;
    leads = subst (λ (x : Event). TcLeads side (Some (sent + 1)) x reply e.out e.sent next) (sym is) leads;
    sent = number;
    none = none;
  };
  handed = subst (λ (x : Event). HandsReply x reply) (sym is) handed;
}

pub tc_goes_alone : (start : Start) (steps : List Step) (side next : TcSide) (sent after : ℕ) (e : Step) (event : Event)
    → GivesTc start steps (record { side = side; sent = sent }) → e.event ≡ event → delivers event ≡ false
    → TcLeads side (Some (sent + 1)) event None e.out e.sent next → after ≡ sent + count e.sent → e.given ≡ None
    → EntersTc start steps e (record { side = next; sent = after })
tc_goes_alone start steps side next sent after e event gives is plain leads number none =
    let a = alone event plain in
    tc_goes start steps side next sent after e event None gives is leads (a.reply (replies steps)) a.handed number none

-- a reply that was given is the one that is handed over
pub tc_goes_with : (start : Start) (before steps : List Step) (side next : TcSide) (sent after : ℕ) (e : Step) (number : ℕ)
    (given : Option Reply) (reply : Reply) → Sees is_tc before steps
    → GivesTc start before (record { side = side; sent = sent }) → e.event ≡ event.Reply number
    → IsSentBy (replies steps) number given → given ≡ Some reply
    → TcLeads side (Some (sent + 1)) (event.Reply number) (Some reply) e.out e.sent next
    → after ≡ sent + count e.sent → e.given ≡ None → EntersTc start steps e (record { side = next; sent = after })
tc_goes_with start before steps side next sent after e number given reply sees gives is by has leads n none =
    tc_goes start steps side next sent after e (event.Reply number) (Some reply)
    (tc_on start before steps (record { side = side; sent = sent }) sees gives) is leads (by.found ∙ sym by.is ∙ has) tt n none

pub tc_kept_on : (start : Start) (names : ℕ → ℕ) (marks : TableId) (old new : View) (state : TcState) (seat : Seen)
    → LatchedTcKept start names marks old state seat → new.name ≡ old.name → Sees is_tc old.steps new.steps
    → LatchedTcKept start names marks new state seat
tc_kept_on start names marks old new state seat k name sees = record {
  name = name ∙ k.name;
  gives = tc_on start old.steps new.steps state sees k.gives;
  seated = seat_on marks old.steps new.steps state.side.tc.stable seat k.seated sees;
}

-- ---- the data component

pub dc_goes : (start : Start) (steps : List Step) (side next : DcSide) (given after : ℕ) (e : Step) (event : Event)
    (request : Option Request) → GivesDc start steps (record { side = side; given = given }) → e.event ≡ event
    → DcLeads side (Some (given + 1)) event request e.out e.given next
    → BringsRequest (requests steps) event request → HandsRequest event request → after ≡ given + count e.given
    → e.sent ≡ None → EntersDc start steps e (record { side = next; given = after })
dc_goes start steps side next given after e event request gives is leads brings handed number none = record {
  old = record { side = side; given = given };
  gives = gives;
  step = record {
    request = request;
    brings = subst (λ (x : Event). BringsRequest (requests steps) x request) (sym is) brings;
    leads = subst (λ (x : Event). DcLeads side (Some (given + 1)) x request e.out e.given next) (sym is) leads;
    given = number;
    none = none;
  };
  handed = subst (λ (x : Event). HandsRequest x request) (sym is) handed;
}

pub dc_goes_alone : (start : Start) (steps : List Step) (side next : DcSide) (given after : ℕ) (e : Step) (event : Event)
    → GivesDc start steps (record { side = side; given = given }) → e.event ≡ event → delivers event ≡ false
    → DcLeads side (Some (given + 1)) event None e.out e.given next → after ≡ given + count e.given → e.sent ≡ None
    → EntersDc start steps e (record { side = next; given = after })
dc_goes_alone start steps side next given after e event gives is plain leads number none =
    let a = alone event plain in
    dc_goes start steps side next given after e event None gives is leads (a.request (requests steps)) a.given number none

has_some : (number : ℕ) (request : Option Request) (value : Request) → request ≡ Some value
    → HandsRequest (event.Request number) request
has_some number None value is = absurd (cc (is))
has_some number (Some q) value is = tt

pub dc_goes_with : (start : Start) (before steps : List Step) (side next : DcSide) (given after : ℕ) (e : Step) (number : ℕ)
    (request : Option Request) → Sees is_dc before steps → GivesDc start before (record { side = side; given = given })
    → e.event ≡ event.Request number → IsSentBy (requests steps) number request
    → DcLeads side (Some (given + 1)) (event.Request number) request e.out e.given next
    → after ≡ given + count e.given → e.sent ≡ None → EntersDc start steps e (record { side = next; given = after })
dc_goes_with start before steps side next given after e number request sees gives is by leads n none =
    dc_goes start steps side next given after e (event.Request number) request
    (dc_on start before steps (record { side = side; given = given }) sees gives) is leads (by.found ∙ sym by.is)
    (has_some number request by.value by.is) n none

pub dc_kept_on : (start : Start) (names : ℕ → ℕ) (old new : View) (state : DcState) → LatchedDcKept start names old state
    → new.name ≡ old.name → Sees is_dc old.steps new.steps → LatchedDcKept start names new state
dc_kept_on start names old new state k name sees =
    record { name = name ∙ k.name; gives = dc_on start old.steps new.steps state sees k.gives }

-- what a run says of the node around the component
pub in_node : (start : Start) (es : List Step) (side : DcSide) (event : Event) → delivers event ≡ false → IsInRun start es side
    → IsInNode side event None
in_node start es side event plain run = record {
  node = run.node;
  kept = run.runs.kept;
  dc_is = run.dc_is;
  brings = (alone event plain).request run.node.requests;
}

pub in_node_with : (start : Start) (es : List Step) (side : DcSide) (number : ℕ) (request : Option Request) → IsInRun start es side
    → IsSentBy (requests es) number request → IsInNode side (event.Request number) request
in_node_with start es side number request run by = record {
  node = run.node;
  kept = run.runs.kept;
  dc_is = run.dc_is;
  brings =
      ap (λ (qs : List Request). message_at qs number) run.runs.requests ∙ by.found ∙ sym by.is;
}
