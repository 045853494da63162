-- What holds of the history whenever its lock is free.
use Rattle.std.specs.Prelude.{◌≡◌, ℕ, ◌+◌, Bool, true, false, cond, List, Option, Some, None, filter, not, slice_get, ⊤}
use Rattle.std.specs.List.{AllByRecursion}
use Rattle.boxcar.specs.Table.{Shelves}
use Rattle.codec.specs.declared.request.Request.{Request}
use Rattle.codec.specs.declared.reply.Reply.{Reply}
use Rattle.history.specs.ListMachine.{Line}
use Rattle.node_sides.specs.node_laws.specs.declared.event.Event.{Event}
use Rattle.node_sides.specs.node_laws.specs.declared.event.Out.{Out}
use Rattle.node_sides.specs.node_laws.specs.declared.event.Event.TheVariants as event
use Rattle.engine_history.specs.declared.step.Step.{Step}
use Rattle.engine_history.specs.declared.failure.Failure.{Failure}
use Rattle.engine_history.specs.declared.place.Place.{Place}
use Rattle.engine_history.specs.declared.told.Told.{Told}
use Rattle.engine_history.specs.declared.told.Told.TheVariants as is
use Rattle.node_sides.specs.node_laws.specs.Component.{DcSide}
use Rattle.node_sides.specs.node_laws.specs.Messages.{message_at}
use Rattle.node_sides.specs.node_laws.specs.Node.{NodeView, dc_side}
use Rattle.engine_history.specs.Steps.{is_tc, requests, replies, Start, IsStart, TcState, DcState, TcStep, DcStep, GivesTc, GivesDc, RunsTo}
use Rattle.engine_history.specs.InFlightCalls.{in_flight_after, fails, FailsSince}
use Rattle.engine_history.specs.Sessions.{calls_by, calls_as, pending, line_of, line_to, line_for, ends, cuts_off}
use Rattle.engine_history.specs.Slots.{Slot, steps, asks, gives, seen, Shown, IsShown, last_of}
use Rattle.engine_history.specs.Views.{View, Sees}

abbrev pub is_dc : Step → Bool
is_dc e = not (is_tc e)

abbrev pub calls_of : ℕ → Step → Bool
calls_of s e = calls_as e.caller s

-- a line is what this entry tells, if there is one
abbrev pub IsLine : Option Line → Option Slot → Type 0
IsLine line None = line ≡ None
IsLine line (Some p) = (t : ℕ) × ((l : Line) × (line ≡ Some l) × (line_to t p.value.step.value.out ≡ Some l))

-- what the history keeps of a session
pub record PlaceKept {J : Type 0} (entries : Shelves) (names : ℕ → ℕ) (es : List Step) (s : ℕ) (p : Place J)
    : Type 0 where
  pub number : p.number ≡ s
  pub name : p.cursor_end.name ≡ names (s + 3)
  pub sees : Sees (calls_of s) p.cursor_end.steps es
  pub live : p.live ≡ (calls_by s es).live
  pub awaits : p.awaits ≡ pending (calls_by s es).latest
  pub shown : IsShown entries p.line
  pub line : IsLine (line_of (calls_by s es).latest) p.line
  pub in_flight : p.in_flight ≡ (calls_by s es).in_flight
  pub failed : FailsSince (calls_by s p.cursor_end.steps).failures (calls_by s es).failures p.failed

-- the place of each session
abbrev pub PlacesKept : {J : Type 0} → Shelves → (ℕ → ℕ) → List Step → List (Place J) → Type 0
PlacesKept {J} entries names es places =
    (s : ℕ) (p : Place J) → slice_get places s ≡ Some p → PlaceKept entries names es s p

abbrev pub is_end : Told → Bool
is_end is.End = true
is_end is.Line = false
is_end is.Nothing = false

-- what is told by a line, if there is one
abbrev pub line_kind : Option Line → Told
line_kind None = is.Nothing
line_kind (Some line) = cond (ends line) is.End is.Line

-- a place that is told something
abbrev pub told_kind : {J : Type 0} → Told → Slot → Place J → Place J
told_kind kind token p = record p {
  live = cond (is_end kind) None p.live;
  awaits = false;
  line = cond p.awaits (Some token) p.line;
}

-- what a place is after an entry that tells a line, or none
abbrev pub with_told : {J : Type 0} → Option Line → Slot → Place J → Place J
with_told None token p = p
with_told (Some line) token p = record p {
  live = cond (ends line) None p.live;
  awaits = false;
  line = cond p.awaits (Some token) p.line;
}

-- the later_failure of two failures, if there are any
abbrev pub later_failure : Option Failure → Option Failure → Option Failure
later_failure was None = was
later_failure was (Some f) = Some f

-- what a place is after a step that may have been made for its transaction
abbrev pub place_worked : {J : Type 0} → Event → Out → Place J → Place J
place_worked e o p = record p {
  in_flight = in_flight_after p.live p.in_flight e o;
  failed = later_failure p.failed (fails p.live p.in_flight e o);
}

abbrev pub place_heard : {J : Type 0} → Event → Out → Slot → Place J → Place J
place_heard e o token p =
    cond (cuts_off e) (record p { live = None }) (with_told (line_for p.live o) token (place_worked e o p))

-- of the sessions that didn't make the call
abbrev pub place_after : {J : Type 0} → Slot → Place J → Place J
place_after token p =
    cond (calls_as token.value.step.value.caller p.number) p
    (place_heard token.value.step.value.event token.value.step.value.out token p)

-- what the entries give, in order; the tokens of those that sent a message; and what the components have seen
pub record LinesKept (start : Start) (entries : Shelves) (names : ℕ → ℕ) (tokens asked given : List Slot) (tc dc : View)
    : Type 0 where
  pub shown : AllByRecursion (Shown entries) tokens
  pub last : seen (last_of tokens) ≡ steps tokens
  pub asked_are : asked ≡ filter asks tokens
  pub given_are : given ≡ filter gives tokens
  pub starts : IsStart start
  pub gives_tc : (s : TcState) × GivesTc start (steps tokens) s
  pub gives_dc : (s : DcState) × GivesDc start (steps tokens) s
  pub tc_name : tc.name ≡ names 0
  pub dc_name : dc.name ≡ names 1
  pub tc_sees : Sees is_tc tc.steps (steps tokens)
  pub dc_sees : Sees is_dc dc.steps (steps tokens)

-- some run of the node through these steps ends with this component
pub record IsInRun (start : Start) (es : List Step) (dc : DcSide) : Type 0 where
  pub node : NodeView
  pub runs : RunsTo start es node
  pub dc_is : dc_side node ≡ dc

-- a message of this number was sent, by this entry
pub record IsSentBy {A : Type 0} (messages : List A) (number : ℕ) (message : Option A) : Type 0 where
  pub value : A
  pub is : message ≡ Some value
  pub found : message_at messages number ≡ Some value

-- where an event delivers a message, there is one
abbrev pub HandsReply : Event → Option Reply → Type 0
HandsReply (event.Reply i) None = ⊥
HandsReply _ reply = ⊤

abbrev pub HandsRequest : Event → Option Request → Type 0
HandsRequest (event.Request i) None = ⊥
HandsRequest _ request = ⊤

-- a step that goes on from what the transaction component has seen, and leaves it so
pub record EntersTc (start : Start) (before : List Step) (e : Step) (new : TcState) : Type 0 where
  pub old : TcState
  pub gives : GivesTc start before old
  pub step : TcStep (replies before) old e new
  pub handed : HandsReply e.event step.reply

-- the same of the data component
pub record EntersDc (start : Start) (before : List Step) (e : Step) (new : DcState) : Type 0 where
  pub old : DcState
  pub gives : GivesDc start before old
  pub step : DcStep (requests before) old e new
  pub handed : HandsRequest e.event step.request
