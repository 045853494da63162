-- What is seen of a node, and what one event may do to it: the contracts of the components' calls, side by
-- side, and the messages that they send and take.
use Rattle.std.specs.Prelude.{◌≡◌, ◌⊎◌, ℕ, ◌+◌, Bool, true, false, List, [], ◌∷◌, ◌++◌, Option, Some, None, Result, Ok, Err, length, if◌then◌else◌}
use Rattle.std.specs.Bool.{MatchBool}
use Rattle.record_key.specs.declared.op.Op.{Op}
use Rattle.record_key.specs.Order.{ends_above}
use Rattle.record_key.specs.Table.{Bytes}
use Rattle.record_key.specs.declared.refusal.Refusal.{Refusal}
use Rattle.record_key.specs.declared.refusal.Refusal.TheVariants.{NoMemory, NotConnected, BadRange, Unsent}
use Rattle.record_key.specs.FirstCause.{RefusesAs}
use Rattle.tc_locks.specs.declared.span.Span.{Span}
use Rattle.tc_locks.specs.declared.span.Span.TheVariants.{Key, Range}
use Rattle.codec.specs.declared.request.Request.{Request}
use Rattle.codec.specs.declared.request.Request.TheVariants as asks
use Rattle.codec.specs.declared.reply.Reply.{Reply}
use Rattle.codec.specs.Replies.{has_rows}
use Rattle.stable.specs.Usage.{unused}
use Rattle.dc_core.specs.DcView.{DcView, fresh_dc}
use Rattle.dc_core.specs.Serves.{ServeGives, serve_refusal}
use Rattle.dc_core.specs.Tends.{SplitsTo, MergesTo, TendsTo, FlushesTo}
use Rattle.dc_core.specs.dc_store.specs.declared.devices.Device.{Device}
use Rattle.dc_core.specs.dc_store.specs.declared.tended.Tended.TheVariants as tended
use Rattle.tc_core.specs.declared.told.Told.{Told}
use Rattle.tc_core.specs.declared.told.Told.TheVariants as told
use Rattle.tc_core.specs.declared.told.UndoStep.TheVariants as undo
use Rattle.tc_core.specs.declared.told.RecoverStep.TheVariants as recovery
use Rattle.tc_core.specs.declared.phase.Phase.{Phase}
use Rattle.tc_core.specs.declared.phase.Phase.TheVariants as phase
use Rattle.tc_core.specs.TcView.{TcView, fresh_tc}
use Rattle.tc_core.specs.Causes.{resend_refusal, running_refusal}
use Rattle.tc_core.specs.Calls.{ReconnectGives, BeginGives, ActGives, ReadGives, SaveGives, BackGives, RollbackGives, CommitGives, UndoGives, ForceGives, ResendGives, TellStableGives}
use Rattle.tc_log.specs.LogView.{last_not_session}
use Rattle.tc_core.specs.Replies.{reply_refusal, ReplyGives}
use Rattle.tc_core.specs.Recovery.{RecoverGives, recover_refusal}
use Rattle.tc_core.specs.LowWater.{LowWaterGives, RefusesLow, Announces}
use Rattle.tc_core.specs.Checkpoint.{CheckpointGives}
use Rattle.node_laws.specs.declared.event.Event.{Event}
use Rattle.node_laws.specs.declared.event.Event.TheVariants as event
use Rattle.node_laws.specs.declared.event.Out.{Out}
use Rattle.node_laws.specs.declared.event.Out.TheVariants as out
use Rattle.node_laws.specs.Component.{TcSide, DcSide, TcCrashesTo, TcRestartsTo, TcFailsTo, DcCrashesTo, DcRestartsTo, DcFailsTo}
use Rattle.node_laws.specs.Messages.{message_at}

-- of each component whether it runs, and what it is, or where it doesn't run will be once it is restarted; every
-- message
-- ever sent stands, the oldest first
pub record NodeView : Type 0 where
  pub tc_up : Bool
  pub tc : TcView
  pub dc_up : Bool
  pub dc : DcView
  pub requests : List Request
  pub replies : List Reply

-- both components run
pub record AreUp (w : NodeView) : Type 0 where
  pub tc : w.tc_up ≡ true
  pub dc : w.dc_up ≡ true

-- both components run, and nothing was sent between them
abbrev pub joined : TcView → DcView → NodeView
joined tc dc = record { tc_up = true; tc = tc; dc_up = true; dc = dc; requests = []; replies = [] }

-- nothing is logged, stored or sent
abbrev pub fresh_node : NodeView
fresh_node = joined (fresh_tc unused) (fresh_dc unused unused)

-- the transaction component is in this state; the rest stays
abbrev pub with_tc : NodeView → TcView → NodeView
with_tc w tc = record w { tc = tc }

-- the same of the data component
abbrev pub with_dc : NodeView → DcView → NodeView
with_dc w dc = record w { dc = dc }

-- a call of the transaction component that sends nothing: its contract, and nothing else changes
abbrev pub Calls : (TcView → Type 0) → NodeView → NodeView → Type 0
Calls Gives old new = Gives new.tc × (new ≡ with_tc old new.tc)

-- the same, and it sent a request, which has this number
pub record Sends (old : NodeView) (tc : TcView) (request : Request) (number : ℕ) (new : NodeView) : Type 0 where
  pub number_is : number ≡ length old.requests + 1
  pub left : new ≡ record old { tc = tc; requests = old.requests ++ request ∷ [] }

-- room for a message is refused, after the call's own causes
abbrev pub LacksRoom : Option Refusal → Bool → Refusal → Type 0
LacksRoom (Some cause) sends r = r ≡ cause
LacksRoom None sends r = (sends ≡ true) × (r ≡ NoMemory)

-- what begins the next session
abbrev pub next_connect : TcView → Request
next_connect w = asks.Connect (length w.log + 1) (last_not_session w.log)

abbrev pub ReconnectsTo : NodeView → Out → NodeView → Type 0
ReconnectsTo old (out.Connects i committed) new =
    ReconnectGives old.tc (Ok (record { request = next_connect old.tc; committed = committed })) new.tc
    × Sends old new.tc (next_connect old.tc) i new
ReconnectsTo old (out.Refused r) new = Calls (ReconnectGives old.tc (Err r)) old new
ReconnectsTo old _ new = ⊥

-- a step of recovery sends a request; where it undoes losers, the one that is awaited
abbrev pub sends_at : Phase → Bool
sends_at phase.Connecting = true
sends_at (phase.Redoing next ending) = true
sends_at (phase.Undoing (Some n)) = true
sends_at _ = false

abbrev pub RecoversTo : NodeView → Out → NodeView → Type 0
RecoversTo old out.Nothing new = Calls (RecoverGives old.tc (Ok recovery.Nothing)) old new
RecoversTo old (out.Sent i) new =
    (request : Request) × RecoverGives old.tc (Ok (recovery.Sends request)) new.tc × Sends old new.tc request i new
RecoversTo old (out.Compensated n) new = Calls (RecoverGives old.tc (Ok (recovery.Compensated n))) old new
RecoversTo old (out.Lost t) new = Calls (RecoverGives old.tc (Ok (recovery.Lost t))) old new
RecoversTo old (out.Refused r) new =
    (LacksRoom (recover_refusal old.tc) (sends_at old.tc.phase) r × (new ≡ old))
    ⊎ Calls (RecoverGives old.tc (Err r)) old new
RecoversTo old _ new = ⊥

abbrev pub BeginsTo : NodeView → Out → NodeView → Type 0
BeginsTo old (out.Begun t) new = Calls (BeginGives old.tc (Ok t)) old new
BeginsTo old (out.Refused r) new = Calls (BeginGives old.tc (Err r)) old new
BeginsTo old _ new = ⊥

abbrev pub ActsTo : NodeView → ℕ → Op → Out → NodeView → Type 0
ActsTo old t op (out.Logged n) new = Calls (ActGives old.tc t op (Ok n)) old new
ActsTo old t op (out.Refused r) new = Calls (ActGives old.tc t op (Err r)) old new
ActsTo old t op _ new = ⊥

abbrev pub ReadsTo : NodeView → ℕ → Span → Out → NodeView → Type 0
ReadsTo old t span (out.Asked n) new = Calls (ReadGives old.tc t span (Ok n)) old new
ReadsTo old t span (out.Refused r) new = Calls (ReadGives old.tc t span (Err r)) old new
ReadsTo old t span _ new = ⊥

abbrev pub SavesTo : NodeView → ℕ → Out → NodeView → Type 0
SavesTo old t (out.Saved s) new = Calls (SaveGives old.tc t (Ok s)) old new
SavesTo old t (out.Refused r) new = Calls (SaveGives old.tc t (Err r)) old new
SavesTo old t _ new = ⊥

abbrev pub GoesBackTo : NodeView → ℕ → ℕ → Out → NodeView → Type 0
GoesBackTo old t s out.RollingBack new = Calls (BackGives old.tc t s (Ok tt)) old new
GoesBackTo old t s (out.Refused r) new = Calls (BackGives old.tc t s (Err r)) old new
GoesBackTo old t s _ new = ⊥

abbrev pub RollsBackTo : NodeView → ℕ → Out → NodeView → Type 0
RollsBackTo old t out.RollingBack new = Calls (RollbackGives old.tc t (Ok tt)) old new
RollsBackTo old t (out.Refused r) new = Calls (RollbackGives old.tc t (Err r)) old new
RollsBackTo old t _ new = ⊥

abbrev pub CommitsTo : NodeView → ℕ → Out → NodeView → Type 0
CommitsTo old t (out.CommitLogged n) new = Calls (CommitGives old.tc t (Ok n)) old new
CommitsTo old t (out.Refused r) new = Calls (CommitGives old.tc t (Err r)) old new
CommitsTo old t _ new = ⊥

abbrev pub UndoesTo : NodeView → ℕ → Out → NodeView → Type 0
UndoesTo old t out.Nothing new = Calls (UndoGives old.tc t (Ok undo.Idle)) old new
UndoesTo old t (out.Compensated n) new = Calls (UndoGives old.tc t (Ok (undo.Compensated n))) old new
UndoesTo old t (out.RolledBack u) new = Calls (UndoGives old.tc t (Ok (undo.RolledBack u))) old new
UndoesTo old t (out.Back u s) new = Calls (UndoGives old.tc t (Ok (undo.Back u s))) old new
UndoesTo old t (out.Refused r) new = Calls (UndoGives old.tc t (Err r)) old new
UndoesTo old t _ new = ⊥

abbrev pub ForcesTo : NodeView → Out → NodeView → Type 0
ForcesTo old (out.Stable end committed) new =
    Calls (ForceGives old.tc (Ok (record { end = end; committed = committed }))) old new
ForcesTo old (out.Refused r) new = Calls (ForceGives old.tc (Err r)) old new
ForcesTo old _ new = ⊥

abbrev pub SendsTo : NodeView → ℕ → Out → NodeView → Type 0
SendsTo old t (out.Sent i) new =
    (request : Request) × ResendGives old.tc t (Ok request) × Sends old old.tc request i new
SendsTo old t (out.Refused r) new = RefusesAs (resend_refusal old.tc t) r × (new ≡ old)
SendsTo old t _ new = ⊥

abbrev pub LowersTo : NodeView → ℕ → Out → NodeView → Type 0
LowersTo old l (out.Sent i) new =
    LowWaterGives old.tc l (Ok (asks.LowWater old.tc.session l)) new.tc
    × Sends old new.tc (asks.LowWater old.tc.session l) i new
LowersTo old l (out.Refused r) new = (RefusesLow old.tc l r ⊎ (Announces old.tc l × (r ≡ NoMemory))) × (new ≡ old)
LowersTo old l _ new = ⊥

abbrev pub AsksCheckpoint : NodeView → Out → NodeView → Type 0
AsksCheckpoint old (out.Sent i) new =
    CheckpointGives old.tc (Ok (asks.Checkpoint old.tc.session old.tc.announced)) new.tc
    × Sends old new.tc (asks.Checkpoint old.tc.session old.tc.announced) i new
AsksCheckpoint old (out.Refused r) new = LacksRoom (running_refusal old.tc) true r × (new ≡ old)
AsksCheckpoint old _ new = ⊥

abbrev pub TellsTo : NodeView → Out → NodeView → Type 0
TellsTo old (out.Sent i) new =
    TellStableGives old.tc (Ok (asks.StableEnd old.tc.session old.tc.stable))
    × Sends old old.tc (asks.StableEnd old.tc.session old.tc.stable) i new
TellsTo old (out.Refused r) new = LacksRoom (running_refusal old.tc) true r × (new ≡ old)
TellsTo old _ new = ⊥

-- there is no message of this number
abbrev pub IsUnsent : {A : Type 0} → List A → ℕ → Refusal → Type 0
IsUnsent messages i r = (r ≡ Unsent) × (message_at messages i ≡ None)

abbrev pub is_replied_to : Request → Bool
is_replied_to (asks.LowWater s l) = false
is_replied_to (asks.StableEnd s stable) = false
is_replied_to _ = true

-- the request of this number reaches the data component
pub record Served (old : NodeView) (i : ℕ) (given : Result (Option Reply) Refusal) (dc : DcView) : Type 0 where
  pub request : Request
  pub found : message_at old.requests i ≡ Some request
  pub gives : ServeGives old.dc request given dc

-- room for its reply is refused, after the request's own causes
pub record Unreplied (old : NodeView) (i : ℕ) (r : Refusal) : Type 0 where
  pub request : Request
  pub found : message_at old.requests i ≡ Some request
  pub refused : LacksRoom (serve_refusal old.dc request) (is_replied_to request) r

abbrev pub ServesTo : NodeView → ℕ → Out → NodeView → Type 0
ServesTo old i (out.Replied j) new =
    (reply : Reply) × Served old i (Ok (Some reply)) new.dc × (j ≡ length old.replies + 1)
    × (new ≡ record old { dc = new.dc; replies = old.replies ++ reply ∷ [] })
ServesTo old i out.Noted new = Served old i (Ok None) new.dc × (new ≡ with_dc old new.dc)
ServesTo old i (out.Refused r) new =
    ((IsUnsent old.requests i r ⊎ Unreplied old i r) × (new ≡ old))
    ⊎ (Served old i (Err r) new.dc × (new ≡ with_dc old new.dc))
ServesTo old i _ new = ⊥

-- an event of a component: refused where that doesn't run
abbrev pub IfUp : Bool → Refusal → NodeView → Out → NodeView → Type 0 → Type 0
IfUp up refusal old output new Does = MatchBool up Does ((output ≡ out.Refused refusal) × (new ≡ old))

abbrev pub IfTcUp : NodeView → Out → NodeView → Type 0 → Type 0
IfTcUp old output new Does = IfUp old.tc_up NotConnected old output new Does

abbrev pub IfDcUp : NodeView → Out → NodeView → Type 0 → Type 0
IfDcUp old output new Does = IfUp old.dc_up NotConnected old output new Does

-- why a call of it is refused, where this would be why
abbrev pub if_up : Bool → Option Refusal → Option Refusal
if_up true refusal = refusal
if_up false refusal = Some NotConnected

-- a span that is no range is refused before
abbrev pub down_refusal : Bytes → Option Bytes → Refusal
down_refusal low high = if ends_above high low then NotConnected else BadRange

-- a call of the data component
abbrev pub CallsDc : (DcView → Type 0) → NodeView → NodeView → Type 0
CallsDc Gives old new = Gives new.dc × (new ≡ with_dc old new.dc)

abbrev pub PartsTo : NodeView → Bytes → Out → NodeView → Type 0
PartsTo old k (out.Split pair) new = CallsDc (SplitsTo old.dc k (Ok pair)) old new
PartsTo old k (out.Refused r) new = CallsDc (SplitsTo old.dc k (Err r)) old new
PartsTo old k _ new = ⊥

abbrev pub JoinsTo : NodeView → Bytes → Out → NodeView → Type 0
JoinsTo old k (out.Merged pair) new = CallsDc (MergesTo old.dc k (Ok pair)) old new
JoinsTo old k (out.Refused r) new = CallsDc (MergesTo old.dc k (Err r)) old new
JoinsTo old k _ new = ⊥

abbrev pub KeepsUpTo : NodeView → Out → NodeView → Type 0
KeepsUpTo old (out.Split pair) new = CallsDc (TendsTo old.dc (Ok (tended.Split pair))) old new
KeepsUpTo old (out.Merged pair) new = CallsDc (TendsTo old.dc (Ok (tended.Merged pair))) old new
KeepsUpTo old out.Nothing new = CallsDc (TendsTo old.dc (Ok tended.Nothing)) old new
KeepsUpTo old (out.Refused r) new = CallsDc (TendsTo old.dc (Err r)) old new
KeepsUpTo old _ new = ⊥

abbrev pub WritesTo : NodeView → Bytes → Out → NodeView → Type 0
WritesTo old k (out.Flushed id) new = CallsDc (FlushesTo old.dc k (Ok id)) old new
WritesTo old k (out.Refused r) new = CallsDc (FlushesTo old.dc k (Err r)) old new
WritesTo old k _ new = ⊥

-- a component changes so, and nothing else does
abbrev pub BecomesTc : NodeView → TcSide → NodeView → Type 0
BecomesTc old side new = new ≡ record old { tc_up = side.up; tc = side.tc }

abbrev pub BecomesDc : NodeView → DcSide → NodeView → Type 0
BecomesDc old side new = new ≡ record old { dc_up = side.up; dc = side.dc }

abbrev pub tc_side : NodeView → TcSide
tc_side w = record { up = w.tc_up; tc = w.tc }

abbrev pub dc_side : NodeView → DcSide
dc_side w = record { up = w.dc_up; dc = w.dc }

abbrev pub CrashesTcTo : NodeView → ℕ → ℕ → Out → NodeView → Type 0
CrashesTcTo old more bytes out.Down new =
    TcCrashesTo (tc_side old) more bytes true (tc_side new) × BecomesTc old (tc_side new) new
CrashesTcTo old more bytes out.Nothing new =
    TcCrashesTo (tc_side old) more bytes false (tc_side new) × BecomesTc old (tc_side new) new
CrashesTcTo old more bytes _ new = ⊥

abbrev pub RestartsTcTo : NodeView → Out → NodeView → Type 0
RestartsTcTo old (out.Up count) new =
    TcRestartsTo (tc_side old) (Ok (Some count)) (tc_side new) × BecomesTc old (tc_side new) new
RestartsTcTo old out.Nothing new = TcRestartsTo (tc_side old) (Ok None) (tc_side new) × BecomesTc old (tc_side new) new
RestartsTcTo old (out.Refused r) new =
    TcRestartsTo (tc_side old) (Err r) (tc_side new) × BecomesTc old (tc_side new) new
RestartsTcTo old _ new = ⊥

abbrev pub CrashesDcTo : NodeView → ℕ → ℕ → Out → NodeView → Type 0
CrashesDcTo old more bytes out.Down new =
    DcCrashesTo (dc_side old) more bytes true (dc_side new) × BecomesDc old (dc_side new) new
CrashesDcTo old more bytes out.Nothing new =
    DcCrashesTo (dc_side old) more bytes false (dc_side new) × BecomesDc old (dc_side new) new
CrashesDcTo old more bytes _ new = ⊥

abbrev pub RestartsDcTo : NodeView → Out → NodeView → Type 0
RestartsDcTo old (out.Up count) new =
    DcRestartsTo (dc_side old) (Ok (Some count)) (dc_side new) × BecomesDc old (dc_side new) new
RestartsDcTo old out.Nothing new = DcRestartsTo (dc_side old) (Ok None) (dc_side new) × BecomesDc old (dc_side new) new
RestartsDcTo old (out.Refused r) new =
    DcRestartsTo (dc_side old) (Err r) (dc_side new) × BecomesDc old (dc_side new) new
RestartsDcTo old _ new = ⊥

abbrev pub FailsTcTo : NodeView → ℕ → Out → NodeView → Type 0
FailsTcTo old call out.Set new = TcFailsTo (tc_side old) call true (tc_side new) × BecomesTc old (tc_side new) new
FailsTcTo old call out.Nothing new = TcFailsTo (tc_side old) call false (tc_side new) × BecomesTc old (tc_side new) new
FailsTcTo old call _ new = ⊥

abbrev pub FailsDcTo : NodeView → Device → ℕ → Out → NodeView → Type 0
FailsDcTo old device call out.Set new =
    DcFailsTo (dc_side old) device call true (dc_side new) × BecomesDc old (dc_side new) new
FailsDcTo old device call out.Nothing new =
    DcFailsTo (dc_side old) device call false (dc_side new) × BecomesDc old (dc_side new) new
FailsDcTo old device call _ new = ⊥

abbrev pub as_out : Told → Out
as_out told.Nothing = out.Nothing
as_out (told.Connected s) = out.Connected s
as_out (told.RedoEnded s) = out.RedoEnded s
as_out (told.Answered t a) = out.Answered t a
as_out (told.Row t v) = out.Row t v
as_out (told.Rows t rows) = out.Rows t rows
as_out (told.Undone n) = out.Undone n
as_out (told.CheckpointLogged n) = out.CheckpointLogged n

-- the reply of this number reaches the transaction component
pub record Taken (old : NodeView) (i : ℕ) (output : Out) (new : NodeView) : Type 0 where
  pub reply : Reply
  pub what : Told
  pub found : message_at old.replies i ≡ Some reply
  pub output_is : output ≡ as_out what
  pub taken : ReplyGives old.tc reply (Ok what) new.tc
  pub left : new ≡ with_tc old new.tc

-- a reply that was found is refused, and the transaction component is left as its contract says
pub record Untaken (old : NodeView) (i : ℕ) (r : Refusal) (new : NodeView) : Type 0 where
  pub reply : Reply
  pub found : message_at old.replies i ≡ Some reply
  pub refused : ReplyGives old.tc reply (Err r) new.tc
  pub left : new ≡ with_tc old new.tc

-- it has rows that nothing else refuses, and memory to read them was refused
pub record Unread (old : NodeView) (i : ℕ) (r : Refusal) : Type 0 where
  pub reply : Reply
  pub found : message_at old.replies i ≡ Some reply
  pub long : has_rows reply ≡ true
  pub unrefused : reply_refusal old.tc reply ≡ None
  pub memory : r ≡ NoMemory

abbrev pub TakesTo : NodeView → ℕ → Out → NodeView → Type 0
TakesTo old i (out.Refused r) new =
    ((IsUnsent old.replies i r ⊎ Unread old i r) × (new ≡ old)) ⊎ Untaken old i r new
TakesTo old i output new = Taken old i output new

-- from old, the event may have this output and leave new
abbrev pub StepsTo : NodeView → Event → Out → NodeView → Type 0
StepsTo old event.Reconnect output new = IfTcUp old output new (ReconnectsTo old output new)
StepsTo old event.Recover output new = IfTcUp old output new (RecoversTo old output new)
StepsTo old event.Begin output new = IfTcUp old output new (BeginsTo old output new)
StepsTo old (event.Act t op) output new = IfTcUp old output new (ActsTo old t op output new)
StepsTo old (event.Get t k) output new = IfTcUp old output new (ReadsTo old t (Key k) output new)
StepsTo old (event.Scan t low high) output new =
    IfUp old.tc_up (down_refusal low high) old output new (ReadsTo old t (Range low high) output new)
StepsTo old (event.Save t) output new = IfTcUp old output new (SavesTo old t output new)
StepsTo old (event.GoBack t s) output new = IfTcUp old output new (GoesBackTo old t s output new)
StepsTo old (event.Rollback t) output new = IfTcUp old output new (RollsBackTo old t output new)
StepsTo old (event.Commit t) output new = IfTcUp old output new (CommitsTo old t output new)
StepsTo old (event.Undo t) output new = IfTcUp old output new (UndoesTo old t output new)
StepsTo old event.Force output new = IfTcUp old output new (ForcesTo old output new)
StepsTo old (event.Send t) output new = IfTcUp old output new (SendsTo old t output new)
StepsTo old (event.LowWater l) output new = IfTcUp old output new (LowersTo old l output new)
StepsTo old event.Checkpoint output new = IfTcUp old output new (AsksCheckpoint old output new)
StepsTo old event.Tell output new = IfTcUp old output new (TellsTo old output new)
StepsTo old (event.Split k) output new = IfDcUp old output new (PartsTo old k output new)
StepsTo old (event.Merge k) output new = IfDcUp old output new (JoinsTo old k output new)
StepsTo old event.Tend output new = IfDcUp old output new (KeepsUpTo old output new)
StepsTo old (event.Flush k) output new = IfDcUp old output new (WritesTo old k output new)
StepsTo old (event.Request i) output new = IfDcUp old output new (ServesTo old i output new)
StepsTo old (event.Reply i) output new = IfTcUp old output new (TakesTo old i output new)
StepsTo old (event.CrashTc frames bytes) output new = CrashesTcTo old frames bytes output new
StepsTo old event.RestartTc output new = RestartsTcTo old output new
StepsTo old (event.CrashDc frames bytes) output new = CrashesDcTo old frames bytes output new
StepsTo old event.RestartDc output new = RestartsDcTo old output new
StepsTo old (event.FailTc call) output new = FailsTcTo old call output new
StepsTo old (event.FailDc device call) output new = FailsDcTo old device call output new
