-- How much of the transaction component's log is stable never gets less, whatever event comes, and what is announced is
-- stable.
use Rattle.std.proofs.Common.{◌≡◌, ◌∙◌, ℕ, ◌+◌, ◌-◌, ◌≤◌, zero, suc, Bool, true, false, true≢false, List, [], ◌∷◌, Option, Some, None, length, length-drop, drop, refl, ap, sym, arith, inl, inr}
use Rattle.std.specs.Prelude.{MatchBool, Err, if◌then◌else◌}
use Rattle.record_key.specs.Table.{Bytes}
use Rattle.record_key.specs.declared.op.Op.{Op}
use Rattle.record_key.specs.declared.op.Answer.{Answer}
use Rattle.record_key.specs.declared.refusal.Refusal.{Refusal}
use Rattle.record_key.specs.declared.refusal.Refusal.TheVariants.{NotConnected}
use Rattle.history.specs.Spans.{Span as Keys}
use Rattle.codec.specs.declared.request.Request.{Request}
use Rattle.codec.specs.declared.request.Request.TheVariants as asks
use Rattle.codec.specs.declared.reply.Reply.{Reply}
use Rattle.codec.specs.declared.reply.Reply.TheVariants as says
use Rattle.stable.specs.Usage.{unused}
use Rattle.node_sides.specs.dc_core.specs.DcView.{fresh_dc}
use Rattle.node_sides.specs.tc_core.specs.declared.open_txn.OpenTxn.{OpenTxn}
use Rattle.node_sides.specs.tc_core.specs.declared.open_txn.Rollback.{Rollback}
use Rattle.node_sides.specs.tc_core.specs.declared.phase.Phase.{Phase}
use Rattle.node_sides.specs.tc_core.specs.declared.phase.Phase.TheVariants as phase
use Rattle.node_sides.specs.tc_core.specs.declared.told.UndoStep.{UndoStep}
use Rattle.node_sides.specs.tc_core.specs.declared.told.UndoStep.TheVariants as undo
use Rattle.node_sides.specs.tc_core.specs.TcView.{TcView, failed}
use Rattle.node_sides.specs.tc_core.specs.Refusing.{Refuses}
use Rattle.node_sides.specs.tc_core.specs.Causes.{RefusesTaking}
use Rattle.node_sides.specs.tc_core.specs.Calls.{ReconnectGives, Undoes, UndoesStep}
use Rattle.node_sides.specs.tc_core.specs.Recovery.{SendsAt}
use Rattle.node_sides.specs.tc_core.specs.Replies.{Outcome, on_reply, on_awaited, on_lost, on_connected, on_redo_ended, on_row, on_rows, takes, awaiting, lacks, reader, is_key, is_range, is_number, span_read}
use Rattle.node_sides.specs.tc_core.specs.Opened.{IsOpenedAgain}
use Rattle.node_sides.specs.tc_core.specs.Kept.{IsTc}
use Rattle.node_sides.specs.node_laws.specs.declared.event.Event.{Event}
use Rattle.node_sides.specs.node_laws.specs.declared.event.Event.TheVariants as event
use Rattle.node_sides.specs.node_laws.specs.declared.event.Out.{Out}
use Rattle.node_sides.specs.node_laws.specs.declared.event.Out.TheVariants as out
use Rattle.node_sides.specs.node_laws.specs.Component.{TcSide, DcSide, Keeps, tc_size}
use Rattle.node_sides.specs.node_laws.specs.Node.{NodeView, ReconnectsTo, RecoversTo, BeginsTo, ActsTo, ReadsTo, SavesTo, GoesBackTo, RollsBackTo, CommitsTo, UndoesTo, ForcesTo, SendsTo, LowersTo, AsksCheckpoint, TellsTo, CrashesTcTo, FailsTcTo, RestartsTcTo, Taken, TakesTo, IfUp, IfTcUp, down_refusal, StepsTo}
use Rattle.node_sides.specs.node_laws.specs.Halves.{of_tc, node_of, also, IsNextNumber, BringsReply, TcLeads}

-- ---- the component's calls

-- as much is stable as was
stays : (old new mid : TcView) → new ≡ mid → mid.stable ≡ old.stable → old.stable ≤ new.stable
stays old new mid is same = let now : new.stable ≡ mid.stable = ap (λ (w : TcView). w.stable) is in
    omega (arith, now, same)

refused : (cause : Option Refusal) (memory device : Bool) (old new : TcView) (r : Refusal)
    → Refuses cause memory device old r new → old.stable ≤ new.stable
refused (Some c) memory device old new r h = stays old new old h.1 refl
refused None memory device old new r (inl h) = stays old new old h.2 refl
refused None memory device old new r (inr h) = stays old new (failed old) h.2 refl

taking : (cause spent : Option Refusal) (device : Bool) (old new : TcView) (t : ℕ) (keys : Keys) (r : Refusal)
    → RefusesTaking cause spent device old t keys r new → old.stable ≤ new.stable
taking (Some c) spent device old new t keys r h = stays old new old h.1 refl
taking None spent device old new t keys r (inl h) = stays old new old h.3 refl
taking None spent device old new t keys r (inr h) = refused spent true device old new r h.1

undoes : (old new : TcView) (o : OpenTxn) (x : Option Rollback) (step : UndoStep) → Undoes old o x step new
    → old.stable ≤ new.stable
undoes old new o None undo.Idle h = stays old new old h refl
undoes old new o (Some r) (undo.Compensated n) h = stays old new _ h.2 refl
undoes old new o (Some r) (undo.RolledBack t) h = stays old new _ h.3 refl
undoes old new o (Some r) (undo.Back t s) h = stays old new _ h.3 refl
undoes old new o _ _ h = absurd h

-- a request of recovery
sends : (old new : TcView) (p : Phase) (q : Request) → SendsAt old p q new → old.stable ≤ new.stable
sends old new phase.Connecting q h = stays old new old h.1 refl
sends old new (phase.Redoing next ending) q h = stays old new _ h.left refl
sends old new (phase.Undoing (Some n)) q h = stays old new old h.unchanged refl
sends old new _ q h = absurd h

-- what a reply comes to leaves as much stable as was
abbrev Stays : TcView → Outcome → Type 0
Stays w x = x.1.stable ≡ w.stable

either : (w : TcView) (b : Bool) (x y : Outcome) → Stays w x → Stays w y → Stays w (if b then x else y)
either w true x y one other = one
either w false x y one other = other

lost_stays : (w : TcView) (n : ℕ) (a : Option Answer) → Stays w (on_lost w n a)
lost_stays w n None = refl
lost_stays w n (Some a) = refl

awaited_stays : (w : TcView) (n : ℕ) (a : Option Answer) (o : Option OpenTxn) → Stays w (on_awaited w n a o)
awaited_stays w n a None = either w (lacks w n) (on_lost w n a) _ (lost_stays w n a) refl
awaited_stays w n None (Some o) = refl
awaited_stays w n (Some a) (Some o) = refl

connected_stays : (w : TcView) (p : Phase) → Stays w (on_connected w p)
connected_stays w phase.Connecting = refl
connected_stays w _ = refl

redo_ended_stays : (w : TcView) (p : Phase) → Stays w (on_redo_ended w p)
redo_ended_stays w (phase.Redoing next true) = refl
redo_ended_stays w _ = refl

row_stays : (w : TcView) (v : Option Bytes) (o : Option OpenTxn) → Stays w (on_row w v o)
row_stays w v None = refl
row_stays w v (Some o) = either w (is_key (span_read o.reading)) _ _ refl refl

rows_stays : (w : TcView) (rows : List (Bytes × Bytes)) (o : Option OpenTxn) → Stays w (on_rows w rows o)
rows_stays w rows None = refl
rows_stays w rows (Some o) = either w (is_range (span_read o.reading)) _ _ refl refl

reply_stays : (w : TcView) (reply : Reply) → Stays w (on_reply w reply)
reply_stays w (says.Connected s) = connected_stays w w.phase
reply_stays w (says.Answered s n a) =
    either w (takes w.session w.phase n) _ _ (awaited_stays w n a (awaiting w n)) refl
reply_stays w (says.RedoEnded s) = redo_ended_stays w w.phase
reply_stays w (says.Row s n v) = row_stays w v (reader w n)
reply_stays w (says.Rows s n rows) = rows_stays w rows (reader w n)
reply_stays w (says.Checkpointed s l) = either w (is_number w.checkpointing l) _ _ refl refl

-- ---- the node's steps

abbrev pub Rises : NodeView → NodeView → Type 0
Rises old new = old.tc.stable ≤ new.tc.stable

tc_stays : (old new : NodeView) (mid : TcView) → new.tc ≡ mid → mid.stable ≡ old.tc.stable → Rises old new
tc_stays old new mid is same = stays old.tc new.tc mid is same

unchanged : (old new : NodeView) → new ≡ old → Rises old new
unchanged old new same = stays old.tc new.tc old.tc (ap (λ (w : NodeView). w.tc) same) refl

-- all is stable
forces_all : (old new : NodeView) → IsTc old.tc → length old.tc.log ≤ new.tc.stable → Rises old new
forces_all old new k all = omega (arith, all, k.within)

reconnects : (old new : NodeView) (o : Out) → IsTc old.tc → ReconnectsTo old o new → Rises old new
reconnects old new (out.Connects i committed) k h =
    let now : new.tc.stable ≡ suc (length old.tc.log) = ap (λ (w : TcView). w.stable) h.0.3 in
    forces_all old new k (omega (arith, now))
reconnects old new (out.Refused r) k h = by h.0
  where
    by : ReconnectGives old.tc (Err r) new.tc → Rises old new
    by (inl c) = refused _ true true old.tc new.tc r c
    by (inr c) = tc_stays old new _ c.2 refl
reconnects old new _ k h = absurd h

recovers : (old new : NodeView) (o : Out) → RecoversTo old o new → Rises old new
recovers old new out.Nothing h = tc_stays old new old.tc h.0.1.1 refl
recovers old new (out.Sent i) h = sends old.tc new.tc old.tc.phase h.0 h.1.1
recovers old new (out.Compensated n) h = tc_stays old new _ h.0.1.left refl
recovers old new (out.Lost t) h = tc_stays old new _ h.0.1.left refl
recovers old new (out.Refused r) (inl h) = unchanged old new h.1
recovers old new (out.Refused r) (inr h) = refused _ _ _ old.tc new.tc r h.0
recovers old new _ h = absurd h

begins : (old new : NodeView) (o : Out) → BeginsTo old o new → Rises old new
begins old new (out.Begun t) h = tc_stays old new _ h.0.2 refl
begins old new (out.Refused r) h = refused _ true true old.tc new.tc r h.0
begins old new _ h = absurd h

acts : (old new : NodeView) (t : ℕ) (op : Op) (o : Out) → ActsTo old t op o new → Rises old new
acts old new t op (out.Logged n) h = tc_stays old new _ h.0.acted refl
acts old new t op (out.Refused r) h = taking _ _ true old.tc new.tc t _ r h.0
acts old new t op _ h = absurd h

-- (what a span is stands in a crate that this one has no other use for)
reads : (old new : NodeView) (t : ℕ) (span : _) (o : Out) → ReadsTo old t span o new → Rises old new
reads old new t span (out.Asked n) h = tc_stays old new _ h.0.asked refl
reads old new t span (out.Refused r) h = taking _ _ false old.tc new.tc t _ r h.0
reads old new t span _ h = absurd h

saves : (old new : NodeView) (t : ℕ) (o : Out) → SavesTo old t o new → Rises old new
saves old new t (out.Saved p) h = tc_stays old new _ h.0.saved refl
saves old new t (out.Refused r) h = refused _ true false old.tc new.tc r h.0
saves old new t _ h = absurd h

goes_back : (old new : NodeView) (t p : ℕ) (o : Out) → GoesBackTo old t p o new → Rises old new
goes_back old new t p out.RollingBack h = tc_stays old new _ h.0.going refl
goes_back old new t p (out.Refused r) h = refused _ false false old.tc new.tc r h.0
goes_back old new t p _ h = absurd h

rolls_back : (old new : NodeView) (t : ℕ) (o : Out) → RollsBackTo old t o new → Rises old new
rolls_back old new t out.RollingBack h = tc_stays old new _ h.0.rolled refl
rolls_back old new t (out.Refused r) h = refused _ false false old.tc new.tc r h.0
rolls_back old new t _ h = absurd h

commits : (old new : NodeView) (t : ℕ) (o : Out) → CommitsTo old t o new → Rises old new
commits old new t (out.CommitLogged n) h = tc_stays old new _ h.0.2 refl
commits old new t (out.Refused r) h = refused _ true true old.tc new.tc r h.0
commits old new t _ h = absurd h

undone : (old new : NodeView) (t : ℕ) (step : UndoStep) → UndoesStep old.tc t step new.tc → Rises old new
undone old new t step h = undoes old.tc new.tc h.open_txn h.open_txn.rolling step h.undoes

undoes_one : (old new : NodeView) (t : ℕ) (o : Out) → UndoesTo old t o new → Rises old new
undoes_one old new t out.Nothing h = undone old new t undo.Idle h.0
undoes_one old new t (out.Compensated n) h = undone old new t (undo.Compensated n) h.0
undoes_one old new t (out.RolledBack u) h = undone old new t (undo.RolledBack u) h.0
undoes_one old new t (out.Back u p) h = undone old new t (undo.Back u p) h.0
undoes_one old new t (out.Refused r) h = refused _ _ _ old.tc new.tc r h.0
undoes_one old new t _ h = absurd h

forces : (old new : NodeView) (o : Out) → IsTc old.tc → ForcesTo old o new → Rises old new
forces old new (out.Stable end committed) k h =
    let now : new.tc.stable ≡ length old.tc.log = ap (λ (w : TcView). w.stable) h.0.2 in
    forces_all old new k (omega (arith, now))
forces old new (out.Refused r) k h = tc_stays old new (failed old.tc) h.0.1 refl
forces old new _ k h = absurd h

resends : (old new : NodeView) (t : ℕ) (o : Out) → SendsTo old t o new → Rises old new
resends old new t (out.Sent i) h = tc_stays old new old.tc (ap (λ (w : NodeView). w.tc) h.2.left) refl
resends old new t (out.Refused r) h = unchanged old new h.1
resends old new t _ h = absurd h

lowers : (old new : NodeView) (l : ℕ) (o : Out) → LowersTo old l o new → Rises old new
lowers old new l (out.Sent i) h = tc_stays old new _ h.0.2 refl
lowers old new l (out.Refused r) h = unchanged old new h.1
lowers old new l _ h = absurd h

checkpoints : (old new : NodeView) (o : Out) → AsksCheckpoint old o new → Rises old new
checkpoints old new (out.Sent i) h = tc_stays old new _ h.0.2 refl
checkpoints old new (out.Refused r) h = unchanged old new h.1
checkpoints old new _ h = absurd h

tells : (old new : NodeView) (o : Out) → TellsTo old o new → Rises old new
tells old new (out.Sent i) h = tc_stays old new old.tc (ap (λ (w : NodeView). w.tc) h.1.left) refl
tells old new (out.Refused r) h = unchanged old new h.1
tells old new _ h = absurd h

taken : (old new : NodeView) (i : ℕ) (o : Out) → Taken old i o new → Rises old new
taken old new i o h = tc_stays old new _ h.taken.1.left (reply_stays old.tc h.reply)

replied : (old new : NodeView) (i : ℕ) (o : Out) → TakesTo old i o new → Rises old new
replied old new i (out.Refused r) (inl h) = unchanged old new h.1
replied old new i (out.Refused r) (inr h) = refused _ _ _ old.tc new.tc r h.refused
replied old new i _ h = taken old new i _ h

-- a crash loses nothing that is stable, and all that is left is stable
crashes : (old new : NodeView) (more bytes : ℕ) (o : Out) → CrashesTcTo old more bytes o new → Rises old new
crashes old new more bytes out.Down h =
    let n : ℕ = h.0.1.0 in
    let kept : Keeps (tc_size old.tc.log) old.tc.stable (length old.tc.log) more bytes n = h.0.1.1 in
    let now : new.tc.stable ≡ length (drop (length old.tc.log - n) old.tc.log) =
    ap (λ (s : TcSide). s.tc.stable) h.0.1.2 in
    omega (arith, now, length-drop (length old.tc.log - n) old.tc.log, kept.stable, kept.within)
crashes old new more bytes out.Nothing h = tc_stays old new old.tc (ap (λ (s : TcSide). s.tc) h.0.1) refl
crashes old new more bytes _ h = absurd h

restarts : (old new : NodeView) (o : Out) → IsTc old.tc → RestartsTcTo old o new → Rises old new
restarts old new (out.Up count) k h =
    let again : IsOpenedAgain old.tc new.tc = h.0.2 in
    let now : new.tc.stable ≡ length old.tc.log = ap (λ (w : TcView). w.stable) again.is in
    forces_all old new k (omega (arith, now))
restarts old new out.Nothing k h = tc_stays old new old.tc (ap (λ (s : TcSide). s.tc) h.0.1) refl
restarts old new (out.Refused r) k h = tc_stays old new _ (ap (λ (s : TcSide). s.tc) h.0.2) refl
restarts old new _ k h = absurd h

fails : (old new : NodeView) (call : ℕ) (o : Out) → FailsTcTo old call o new → Rises old new
fails old new call out.Set h = tc_stays old new _ (ap (λ (s : TcSide). s.tc) h.0.1) refl
fails old new call out.Nothing h = tc_stays old new old.tc (ap (λ (s : TcSide). s.tc) h.0.1) refl
fails old new call _ h = absurd h

-- where it doesn't run all is as it was
if_up : (old new : NodeView) (up : Bool) (r : Refusal) (o : Out) (Does : Type 0) → (Does → Rises old new)
    → IfUp up r old o new Does → Rises old new
if_up old new true r o Does does h = does h
if_up old new false r o Does does h = unchanged old new h.1

if_tc_up : (old new : NodeView) (o : Out) (Does : Type 0) → (Does → Rises old new) → IfTcUp old o new Does
    → Rises old new
if_tc_up old new o Does does h = if_up old new old.tc_up NotConnected o Does does h

pub rises : (old new : NodeView) (e : Event) (o : Out) → IsTc old.tc → of_tc e ≡ true → StepsTo old e o new → Rises old new
rises old new event.Reconnect o k is h = if_tc_up old new o _ (reconnects old new o k) h
rises old new event.Recover o k is h = if_tc_up old new o _ (recovers old new o) h
rises old new event.Begin o k is h = if_tc_up old new o _ (begins old new o) h
rises old new (event.Act t op) o k is h = if_tc_up old new o _ (acts old new t op o) h
rises old new (event.Get t key) o k is h = if_tc_up old new o _ (reads old new t _ o) h
rises old new (event.Scan t low high) o k is h =
    if_up old new old.tc_up (down_refusal low high) o _ (reads old new t _ o) h
rises old new (event.Save t) o k is h = if_tc_up old new o _ (saves old new t o) h
rises old new (event.GoBack t p) o k is h = if_tc_up old new o _ (goes_back old new t p o) h
rises old new (event.Rollback t) o k is h = if_tc_up old new o _ (rolls_back old new t o) h
rises old new (event.Commit t) o k is h = if_tc_up old new o _ (commits old new t o) h
rises old new (event.Undo t) o k is h = if_tc_up old new o _ (undoes_one old new t o) h
rises old new event.Force o k is h = if_tc_up old new o _ (forces old new o k) h
rises old new (event.Send t) o k is h = if_tc_up old new o _ (resends old new t o) h
rises old new (event.LowWater l) o k is h = if_tc_up old new o _ (lowers old new l o) h
rises old new event.Checkpoint o k is h = if_tc_up old new o _ (checkpoints old new o) h
rises old new event.Tell o k is h = if_tc_up old new o _ (tells old new o) h
rises old new (event.Reply i) o k is h = if_tc_up old new o _ (replied old new i o) h
rises old new (event.CrashTc frames bytes) o k is h = crashes old new frames bytes o h
rises old new event.RestartTc o k is h = restarts old new o k h
rises old new (event.FailTc call) o k is h = fails old new call o h
rises old new _ o k is h = absurd (true≢false (sym is))

-- what is announced is stable, and the component runs
pub announces : (old new : NodeView) (l i : ℕ) → StepsTo old (event.LowWater l) (out.Sent i) new
    → (new.tc_up ≡ true) × (l ≤ new.tc.stable)
announces old new l i h = by old.tc_up refl h
  where
    by : (b : Bool) → old.tc_up ≡ b
        → MatchBool b (LowersTo old l (out.Sent i) new) ((out.Sent i ≡ out.Refused NotConnected) × (new ≡ old))
        → (new.tc_up ≡ true) × (l ≤ new.tc.stable)
    by true up h =
        let same : new.tc_up ≡ old.tc_up = ap (λ (w : NodeView). w.tc_up) h.1.left in
        let now : new.tc.stable ≡ old.tc.stable = ap (λ (w : TcView). w.stable) h.0.2 in
        let within : l ≤ length (drop (length old.tc.log - old.tc.stable) old.tc.log) = h.0.0.allowed.within in
        let short = length-drop (length old.tc.log - old.tc.stable) old.tc.log in
        (same ∙ up, omega (arith, now, within, short))
    by false up h = let e : out.Sent i ≡ out.Refused NotConnected = h.0 in absurd (cc)

-- ---- the component's events, whatever the rest of the node is

some_dc : DcSide
some_dc = record { up = true; dc = fresh_dc unused unused }

-- there may be so many requests
abbrev some_requests : ℕ → List Request
some_requests zero = []
some_requests (suc n) = asks.RedoEnd 0 ∷ some_requests n

so_many : (n : ℕ) → length (some_requests n) ≡ n
so_many zero = refl
so_many (suc n) = ap (λ (k : ℕ). suc k) (so_many n)

next_of : (sent : ℕ) → IsNextNumber (some_requests sent) (Some (sent + 1))
next_of sent = omega (arith, so_many sent)

-- no reply is brought by any event
none_brought : (e : Event) → BringsReply [] e None
none_brought (event.Reply zero) = refl
none_brought (event.Reply (suc i)) = refl
none_brought _ = refl

-- no event, a crash neither, makes less stable; the number and the reply are such as may be
pub stable_rises : (old new : TcSide) (next : Option ℕ) (e : Event) (reply : Option Reply) (o : Out)
    (request : Option Request) (requests : List Request) (replies : List Reply) → IsTc old.tc → of_tc e ≡ true
    → IsNextNumber requests next → BringsReply replies e reply → TcLeads old next e reply o request new
    → old.tc.stable ≤ new.tc.stable
stable_rises old new next e reply o request requests replies k is number brings leads =
    rises (node_of old some_dc requests replies) (node_of new some_dc (also requests request) replies) e o k is
    (leads.gives some_dc requests replies number brings)

-- the same at the next number
pub next_rises : (old new : TcSide) (sent : ℕ) (e : Event) (reply : Option Reply) (o : Out) (request : Option Request)
    (replies : List Reply) → IsTc old.tc → of_tc e ≡ true → BringsReply replies e reply
    → TcLeads old (Some (sent + 1)) e reply o request new → old.tc.stable ≤ new.tc.stable
next_rises old new sent e reply o request replies k is brings leads =
    stable_rises old new (Some (sent + 1)) e reply o request (some_requests sent) replies k is (next_of sent) brings
    leads

-- and where no reply is brought
pub alone_rises : (old new : TcSide) (sent : ℕ) (e : Event) (o : Out) (request : Option Request) → IsTc old.tc
    → of_tc e ≡ true → TcLeads old (Some (sent + 1)) e None o request new → old.tc.stable ≤ new.tc.stable
alone_rises old new sent e o request k is leads =
    next_rises old new sent e None o request [] k is (none_brought e) leads

-- a LowWater that was sent announces a number that is stable, and the component runs
pub low_sent : (old new : TcSide) (next : Option ℕ) (l : ℕ) (reply : Option Reply) (i : ℕ) (request : Option Request)
    (requests : List Request) → IsNextNumber requests next → reply ≡ None
    → TcLeads old next (event.LowWater l) reply (out.Sent i) request new → (new.up ≡ true) × (l ≤ new.tc.stable)
low_sent old new next l reply i request requests number none leads =
    announces (node_of old some_dc requests []) (node_of new some_dc (also requests request) []) l i
    (leads.gives some_dc requests [] number none)

-- the same at the next number
pub next_low_sent : (old new : TcSide) (sent l : ℕ) (reply : Option Reply) (i : ℕ) (request : Option Request)
    → reply ≡ None → TcLeads old (Some (sent + 1)) (event.LowWater l) reply (out.Sent i) request new
    → (new.up ≡ true) × (l ≤ new.tc.stable)
next_low_sent old new sent l reply i request none leads =
    low_sent old new (Some (sent + 1)) l reply i request (some_requests sent) (next_of sent) none leads
