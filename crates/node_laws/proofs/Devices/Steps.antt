-- Whatever event comes, sound devices stay so, and no output says that one failed.
use Rattle.std.proofs.Common.{◌≡◌, ◌≢◌, ◌⊎◌, ℕ, Bool, true, false, List, [], ◌∷◌, Option, Some, None, refl, sym, ap, ◌∙◌, subst, inl, inr, true≢false}
use Rattle.std.specs.Prelude.{Result, Ok, Err, if◌then◌else◌}
use Rattle.std.specs.List.{AllByRecursion}
use Rattle.record_key.specs.declared.op.Op.{Op}
use Rattle.record_key.specs.Table.{Bytes}
use Rattle.record_key.specs.Order.{ends_above}
use Rattle.record_key.specs.declared.refusal.Refusal.{Refusal}
use Rattle.record_key.specs.declared.refusal.Refusal.TheVariants.{NoMemory, Device, NotConnected, BadRange}
use Rattle.tc_locks.specs.declared.span.Span.{Span}
use Rattle.tc_locks.specs.declared.span.Span.TheVariants.{Key, Range}
use Rattle.tc_log.specs.LogView.{spent_refusal}
use Rattle.tc_locks.specs.Meant.{range_of}
use Rattle.tc_core.specs.declared.told.Told.{Told}
use Rattle.tc_core.specs.declared.told.Told.TheVariants as told
use Rattle.tc_core.specs.declared.told.UndoStep.{UndoStep}
use Rattle.tc_core.specs.declared.told.UndoStep.TheVariants as undo
use Rattle.tc_core.specs.OpenTxns.{find}
use Rattle.tc_core.specs.TcView.{TcView}
use Rattle.tc_core.specs.Causes.{idle_refusal, begin_refusal, commit_refusal, save_refusal, back_refusal, read_refusal, reads_spent, undo_refusal, undo_logs, resend_refusal, running_refusal}
use Rattle.tc_core.specs.Changes.{begun, acted, asked_read, shared, committed, forced, reconnected, announced}
use Rattle.tc_core.specs.Calls.{UndoGives}
use Rattle.tc_core.specs.Recovery.{recover_refusal, undo_logs_at}
use Rattle.tc_core.specs.LowWater.{RefusesLow, Announces}
use Rattle.tc_core.specs.Replies.{reply_refusal, logs, on_reply}
use Rattle.history.specs.Spans.{changed_span}
use Rattle.dc_core.specs.DcView.{DcView}
use Rattle.dc_core.specs.Serves.{serve_refusal}
use Rattle.dc_core.specs.dc_store.specs.declared.tended.Tended.TheVariants as tended
use Rattle.node_laws.specs.declared.event.Event.{Event}
use Rattle.node_laws.specs.declared.event.Event.TheVariants as event
use Rattle.node_laws.specs.declared.event.Out.{Out}
use Rattle.node_laws.specs.declared.event.Out.TheVariants as out
use Rattle.node_laws.specs.declared.round.Round.{Round}
use Rattle.node_laws.specs.declared.round.Round.TheVariants as round
use Rattle.node_laws.specs.Component.{TcSide, DcSide}
use Rattle.node_laws.specs.Node.{NodeView, with_tc, with_dc, Calls, IfUp, down_refusal, ReconnectsTo, RecoversTo, BeginsTo, ActsTo, ReadsTo, SavesTo, GoesBackTo, RollsBackTo, CommitsTo, UndoesTo, ForcesTo, SendsTo, LowersTo, AsksCheckpoint, TellsTo, PartsTo, JoinsTo, KeepsUpTo, WritesTo, ServesTo, TakesTo, Taken, as_out, is_replied_to, IsUnsent, Unreplied, Unread, CrashesTcTo, RestartsTcTo, CrashesDcTo, RestartsDcTo, StepsTo, fresh_node}
use Rattle.node_laws.specs.Stepping.{IsStep, Chain}
use Rattle.node_laws.specs.Rounds.{Plays, StopsAt, Rounds, events_of, Settles}
use Rattle.node_laws.specs.Sound.{IsSound, HasSoundDevices, SaysNoFailure, SetsNone}
use Rattle.node_laws.proofs.Devices.Causes.{sound_called, not_due, is_foreign, other_some, refuses_other, room_other, spent_other, running_other, idle_other, begin_other, commit_other, save_other, back_other, read_other, reads_other, undo_other, resend_other, recover_other, reply_other, serve_other}
use Rattle.node_laws.proofs.Devices.TcCalls.{Ends, sound_as, ends_refused, ends_taking, ends_reconnect, sound_undone, sound_sent, sound_replied, sound_opened, ends_opening}
use Rattle.node_laws.proofs.Devices.DcCalls as dc
use Rattle.node_laws.proofs.Devices.DcCalls.{AreSound}

pub fresh_is_sound : HasSoundDevices fresh_node
fresh_is_sound = record {
  log = record { unset = refl; firm = refl };
  system_log = record { unset = refl; firm = refl };
  pages = record { unset = refl; firm = refl };
}

-- ---- what is said

abbrev says_foreign : Out → Bool
says_foreign (out.Refused r) = is_foreign r
says_foreign _ = false

-- what an event leaves, and what it says
record Safe (w : NodeView) (o : Out) : Type 0 where
  devices : HasSoundDevices w
  quiet : says_foreign o ≡ false

unsaid : (o : Out) → says_foreign o ≡ false → SaysNoFailure o
unsaid o quiet is = true≢false (sym (ap says_foreign is) ∙ quiet)

unchanged : (old new : NodeView) (o : Out) → HasSoundDevices old → new ≡ old → says_foreign o ≡ false → Safe new o
unchanged old new o s same quiet = record { devices = subst HasSoundDevices (sym same) s; quiet = quiet }

-- ---- calls of the transaction component

-- nothing changes at the data component
at_tc : (old new : NodeView) (o : Out) → HasSoundDevices old → new.dc ≡ old.dc → IsSound new.tc.usage
    → says_foreign o ≡ false → Safe new o
at_tc old new o s same usage quiet = record {
  devices = record {
    log = usage;
    system_log = subst (λ (x : DcView). IsSound x.system.log_usage) (sym same) s.system_log;
    pages = subst (λ (x : DcView). IsSound x.system.page_usage) (sym same) s.pages;
  };
  quiet = quiet;
}

same_dc : (old new : NodeView) → new ≡ with_tc old new.tc → new.dc ≡ old.dc
same_dc old new left = ap (λ (x : NodeView). x.dc) left

tc_is : (old new : NodeView) (tc : TcView) (o : Out) → HasSoundDevices old → new.dc ≡ old.dc → new.tc ≡ tc
    → IsSound tc.usage → says_foreign o ≡ false → Safe new o
tc_is old new tc o s same is usage quiet = at_tc old new o s same (sound_as new.tc tc is usage) quiet

tc_ends : (old new : NodeView) (r : Refusal) → HasSoundDevices old → new.dc ≡ old.dc → Ends r new.tc
    → Safe new (out.Refused r)
tc_ends old new r s same e = at_tc old new (out.Refused r) s same e.sound e.other

reconnects : (old new : NodeView) (o : Out) → HasSoundDevices old → ReconnectsTo old o new → Safe new o
reconnects old new (out.Connects i committed) s h =
    tc_is old new (reconnected old.tc) (out.Connects i committed) s (ap (λ (x : NodeView). x.dc) h.1.left) h.0.3
    (sound_called _ (sound_called old.tc.usage s.log)) refl
reconnects old new (out.Refused r) s h =
    tc_ends old new r s (same_dc old new h.1) (ends_reconnect old.tc r new.tc s.log h.0)
reconnects old new _ s h = absurd h

recovers : (old new : NodeView) (o : Out) → HasSoundDevices old → RecoversTo old o new → Safe new o
recovers old new out.Nothing s h = tc_is old new old.tc out.Nothing s (same_dc old new h.1) h.0.1.1 s.log refl
recovers old new (out.Sent i) s h =
    at_tc old new (out.Sent i) s (ap (λ (x : NodeView). x.dc) h.2.left)
    (sound_sent old.tc old.tc.phase h.0 new.tc s.log h.1.1) refl
recovers old new (out.Compensated n) s h =
    tc_is old new _ (out.Compensated n) s (same_dc old new h.1) h.0.1.left (sound_called old.tc.usage s.log) refl
recovers old new (out.Lost t) s h =
    tc_is old new _ (out.Lost t) s (same_dc old new h.1) h.0.1.left (sound_called old.tc.usage s.log) refl
recovers old new (out.Refused r) s (inl h) =
    unchanged old new (out.Refused r) s h.1 (room_other (recover_refusal old.tc) _ r (recover_other old.tc) h.0)
recovers old new (out.Refused r) s (inr h) =
    tc_ends old new r s (same_dc old new h.1)
    (ends_refused (recover_refusal old.tc) (undo_logs_at old.tc.phase) (undo_logs_at old.tc.phase) old.tc r new.tc s.log
    (recover_other old.tc) h.0)
recovers old new _ s h = absurd h

begins : (old new : NodeView) (o : Out) → HasSoundDevices old → BeginsTo old o new → Safe new o
begins old new (out.Begun t) s h =
    tc_is old new (begun old.tc) (out.Begun t) s (same_dc old new h.1) h.0.2 (sound_called old.tc.usage s.log) refl
begins old new (out.Refused r) s h =
    tc_ends old new r s (same_dc old new h.1)
    (ends_refused (begin_refusal old.tc) true true old.tc r new.tc s.log (begin_other old.tc) h.0)
begins old new _ s h = absurd h

acts : (old new : NodeView) (t : ℕ) (op : Op) (o : Out) → HasSoundDevices old → ActsTo old t op o new → Safe new o
acts old new t op (out.Logged n) s h =
    tc_is old new (acted old.tc h.0.open_txn op) (out.Logged n) s (same_dc old new h.1) h.0.acted
    (sound_called old.tc.usage s.log) refl
acts old new t op (out.Refused r) s h =
    tc_ends old new r s (same_dc old new h.1)
    (ends_taking (idle_refusal old.tc t) (spent_refusal old.tc.log) true old.tc t (changed_span op) r new.tc s.log
    (idle_other old.tc t) (spent_other old.tc) h.0)
acts old new t op _ s h = absurd h

reads : (old new : NodeView) (t : ℕ) (span : Span) (o : Out) → HasSoundDevices old → ReadsTo old t span o new
    → Safe new o
reads old new t span (out.Asked n) s h =
    tc_is old new (asked_read old.tc h.0.open_txn span) (out.Asked n) s (same_dc old new h.1) h.0.asked s.log refl
reads old new t span (out.Refused r) s h =
    tc_ends old new r s (same_dc old new h.1)
    (ends_taking (read_refusal old.tc t (range_of span)) (reads_spent old.tc.reads) false old.tc t (shared span) r new.tc
    s.log (read_other old.tc t span) (reads_other old.tc.reads) h.0)
reads old new t span _ s h = absurd h

saves : (old new : NodeView) (t : ℕ) (o : Out) → HasSoundDevices old → SavesTo old t o new → Safe new o
saves old new t (out.Saved p) s h =
    tc_is old new _ (out.Saved p) s (same_dc old new h.1) h.0.saved s.log refl
saves old new t (out.Refused r) s h =
    tc_ends old new r s (same_dc old new h.1)
    (ends_refused (save_refusal old.tc t) true false old.tc r new.tc s.log (save_other old.tc t) h.0)
saves old new t _ s h = absurd h

goes_back : (old new : NodeView) (t p : ℕ) (o : Out) → HasSoundDevices old → GoesBackTo old t p o new → Safe new o
goes_back old new t p out.RollingBack s h =
    tc_is old new _ out.RollingBack s (same_dc old new h.1) h.0.going s.log refl
goes_back old new t p (out.Refused r) s h =
    tc_ends old new r s (same_dc old new h.1)
    (ends_refused (back_refusal old.tc t p) false false old.tc r new.tc s.log (back_other old.tc t p) h.0)
goes_back old new t p _ s h = absurd h

rolls_back : (old new : NodeView) (t : ℕ) (o : Out) → HasSoundDevices old → RollsBackTo old t o new → Safe new o
rolls_back old new t out.RollingBack s h =
    tc_is old new _ out.RollingBack s (same_dc old new h.1) h.0.rolled s.log refl
rolls_back old new t (out.Refused r) s h =
    tc_ends old new r s (same_dc old new h.1)
    (ends_refused (idle_refusal old.tc t) false false old.tc r new.tc s.log (idle_other old.tc t) h.0)
rolls_back old new t _ s h = absurd h

commits : (old new : NodeView) (t : ℕ) (o : Out) → HasSoundDevices old → CommitsTo old t o new → Safe new o
commits old new t (out.CommitLogged n) s h =
    tc_is old new (committed old.tc t) (out.CommitLogged n) s (same_dc old new h.1) h.0.2
    (sound_called old.tc.usage s.log) refl
commits old new t (out.Refused r) s h =
    tc_ends old new r s (same_dc old new h.1)
    (ends_refused (commit_refusal old.tc t) true true old.tc r new.tc s.log (commit_other old.tc t) h.0)
commits old new t _ s h = absurd h

undone : (old new : NodeView) (t : ℕ) (step : UndoStep) (o : Out) → HasSoundDevices old
    → Calls (UndoGives old.tc t (Ok step)) old new → says_foreign o ≡ false → Safe new o
undone old new t step o s h quiet =
    at_tc old new o s (same_dc old new h.1)
    (sound_undone old.tc h.0.open_txn h.0.open_txn.rolling step new.tc s.log h.0.undoes) quiet

undoes : (old new : NodeView) (t : ℕ) (o : Out) → HasSoundDevices old → UndoesTo old t o new → Safe new o
undoes old new t out.Nothing s h = undone old new t undo.Idle out.Nothing s h refl
undoes old new t (out.Compensated n) s h = undone old new t (undo.Compensated n) (out.Compensated n) s h refl
undoes old new t (out.RolledBack u) s h = undone old new t (undo.RolledBack u) (out.RolledBack u) s h refl
undoes old new t (out.Back u p) s h = undone old new t (undo.Back u p) (out.Back u p) s h refl
undoes old new t (out.Refused r) s h =
    tc_ends old new r s (same_dc old new h.1)
    (ends_refused (undo_refusal old.tc t) (undo_logs (find t old.tc.open_txns)) (undo_logs (find t old.tc.open_txns))
    old.tc r new.tc s.log (undo_other old.tc t) h.0)
undoes old new t _ s h = absurd h

forces : (old new : NodeView) (o : Out) → HasSoundDevices old → ForcesTo old o new → Safe new o
forces old new (out.Stable end committed) s h =
    tc_is old new (forced old.tc) (out.Stable end committed) s (same_dc old new h.1) h.0.2
    (sound_called old.tc.usage s.log) refl
forces old new (out.Refused r) s h = absurd (not_due old.tc.usage s.log h.0.2)
forces old new _ s h = absurd h

sends : (old new : NodeView) (t : ℕ) (o : Out) → HasSoundDevices old → SendsTo old t o new → Safe new o
sends old new t (out.Sent i) s h =
    tc_is old new old.tc (out.Sent i) s (ap (λ (x : NodeView). x.dc) h.2.left) (ap (λ (x : NodeView). x.tc) h.2.left)
    s.log refl
sends old new t (out.Refused r) s h =
    unchanged old new (out.Refused r) s h.1 (refuses_other (resend_refusal old.tc t) r (resend_other old.tc t) h.0)
sends old new t _ s h = absurd h

low_other : (w : TcView) (l : ℕ) (r : Refusal) → RefusesLow w l r → is_foreign r ≡ false
low_other w l r (inl h) = other_some (running_refusal w) r (running_other w) h
low_other w l r (inr h) = ap is_foreign h.1

lowers : (old new : NodeView) (l : ℕ) (o : Out) → HasSoundDevices old → LowersTo old l o new → Safe new o
lowers old new l (out.Sent i) s h =
    tc_is old new (announced old.tc l) (out.Sent i) s (ap (λ (x : NodeView). x.dc) h.1.left) h.0.2 s.log refl
lowers old new l (out.Refused r) s h = unchanged old new (out.Refused r) s h.1 (by h.0)
  where
    by : RefusesLow old.tc l r ⊎ (Announces old.tc l × (r ≡ NoMemory)) → is_foreign r ≡ false
    by (inl low) = low_other old.tc l r low
    by (inr room) = ap is_foreign room.1
lowers old new l _ s h = absurd h

asks_checkpoint : (old new : NodeView) (o : Out) → HasSoundDevices old → AsksCheckpoint old o new → Safe new o
asks_checkpoint old new (out.Sent i) s h =
    tc_is old new _ (out.Sent i) s (ap (λ (x : NodeView). x.dc) h.1.left) h.0.2 s.log refl
asks_checkpoint old new (out.Refused r) s h =
    unchanged old new (out.Refused r) s h.1 (room_other (running_refusal old.tc) true r (running_other old.tc) h.0)
asks_checkpoint old new _ s h = absurd h

tells : (old new : NodeView) (o : Out) → HasSoundDevices old → TellsTo old o new → Safe new o
tells old new (out.Sent i) s h =
    tc_is old new old.tc (out.Sent i) s (ap (λ (x : NodeView). x.dc) h.1.left) (ap (λ (x : NodeView). x.tc) h.1.left)
    s.log refl
tells old new (out.Refused r) s h =
    unchanged old new (out.Refused r) s h.1 (room_other (running_refusal old.tc) true r (running_other old.tc) h.0)
tells old new _ s h = absurd h

-- ---- replies

told_quiet : (what : Told) → says_foreign (as_out what) ≡ false
told_quiet told.Nothing = refl
told_quiet (told.Connected session) = refl
told_quiet (told.RedoEnded session) = refl
told_quiet (told.Answered t a) = refl
told_quiet (told.Row t v) = refl
told_quiet (told.Rows t rows) = refl
told_quiet (told.Undone n) = refl
told_quiet (told.CheckpointLogged n) = refl

taken : (old new : NodeView) (i : ℕ) (o : Out) → HasSoundDevices old → Taken old i o new → Safe new o
taken old new i o s h =
    tc_is old new (on_reply old.tc h.reply).1 o s (same_dc old new h.left) h.taken.1.left
    (sound_replied old.tc h.reply s.log) (ap says_foreign h.output_is ∙ told_quiet h.what)

takes : (old new : NodeView) (i : ℕ) (o : Out) → HasSoundDevices old → TakesTo old i o new → Safe new o
takes old new i (out.Refused r) s (inl h) = unchanged old new (out.Refused r) s h.1 (by h.0)
  where
    by : IsUnsent old.replies i r ⊎ Unread old i r → is_foreign r ≡ false
    by (inl unsent) = ap is_foreign unsent.0
    by (inr unread) = ap is_foreign unread.memory
takes old new i (out.Refused r) s (inr h) =
    tc_ends old new r s (same_dc old new h.left)
    (ends_refused (reply_refusal old.tc h.reply) (logs old.tc h.reply) (logs old.tc h.reply) old.tc r new.tc s.log
    (reply_other old.tc h.reply) h.refused)
takes old new i _ s h = taken old new i _ s h

-- ---- calls of the data component

of_system : (w : NodeView) → HasSoundDevices w → AreSound w.dc.system
of_system w s = record { log = s.system_log; pages = s.pages }

-- nothing changes at the transaction component
at_dc : (old new : NodeView) (o : Out) → HasSoundDevices old → new.tc ≡ old.tc → AreSound new.dc.system
    → says_foreign o ≡ false → Safe new o
at_dc old new o s same d quiet = record {
  devices = record {
    log = sound_as new.tc old.tc same s.log;
    system_log = d.log;
    pages = d.pages;
  };
  quiet = quiet;
}

same_tc : (old new : NodeView) → new ≡ with_dc old new.dc → new.tc ≡ old.tc
same_tc old new left = ap (λ (x : NodeView). x.tc) left

dc_ends : (old new : NodeView) (r : Refusal) → HasSoundDevices old → new ≡ with_dc old new.dc
    → dc.Ends r new.dc.system → Safe new (out.Refused r)
dc_ends old new r s left e = at_dc old new (out.Refused r) s (same_tc old new left) e.sound e.other

parts : (old new : NodeView) (k : Bytes) (o : Out) → HasSoundDevices old → PartsTo old k o new → Safe new o
parts old new k (out.Split pair) s h =
    at_dc old new (out.Split pair) s (same_tc old new h.1) (dc.parted old.dc new.dc k (Ok pair) (of_system old s) h.0)
    refl
parts old new k (out.Refused r) s h =
    dc_ends old new r s h.1 (dc.parted old.dc new.dc k (Err r) (of_system old s) h.0)
parts old new k _ s h = absurd h

joins : (old new : NodeView) (k : Bytes) (o : Out) → HasSoundDevices old → JoinsTo old k o new → Safe new o
joins old new k (out.Merged pair) s h =
    at_dc old new (out.Merged pair) s (same_tc old new h.1) (dc.joined old.dc new.dc k (Ok pair) (of_system old s) h.0)
    refl
joins old new k (out.Refused r) s h =
    dc_ends old new r s h.1 (dc.joined old.dc new.dc k (Err r) (of_system old s) h.0)
joins old new k _ s h = absurd h

keeps_up : (old new : NodeView) (o : Out) → HasSoundDevices old → KeepsUpTo old o new → Safe new o
keeps_up old new (out.Split pair) s h =
    at_dc old new (out.Split pair) s (same_tc old new h.1)
    (dc.kept_up old.dc new.dc (Ok (tended.Split pair)) (of_system old s) h.0) refl
keeps_up old new (out.Merged pair) s h =
    at_dc old new (out.Merged pair) s (same_tc old new h.1)
    (dc.kept_up old.dc new.dc (Ok (tended.Merged pair)) (of_system old s) h.0) refl
keeps_up old new out.Nothing s h =
    at_dc old new out.Nothing s (same_tc old new h.1)
    (dc.kept_up old.dc new.dc (Ok tended.Nothing) (of_system old s) h.0) refl
keeps_up old new (out.Refused r) s h = dc_ends old new r s h.1 (dc.kept_up old.dc new.dc (Err r) (of_system old s) h.0)
keeps_up old new _ s h = absurd h

writes : (old new : NodeView) (k : Bytes) (o : Out) → HasSoundDevices old → WritesTo old k o new → Safe new o
writes old new k (out.Flushed id) s h =
    at_dc old new (out.Flushed id) s (same_tc old new h.1) (dc.flushed old.dc new.dc k (Ok id) (of_system old s) h.0)
    refl
writes old new k (out.Refused r) s h =
    dc_ends old new r s h.1 (dc.flushed old.dc new.dc k (Err r) (of_system old s) h.0)
writes old new k _ s h = absurd h

serves : (old new : NodeView) (i : ℕ) (o : Out) → HasSoundDevices old → ServesTo old i o new → Safe new o
serves old new i (out.Replied j) s h =
    at_dc old new (out.Replied j) s (ap (λ (x : NodeView). x.tc) h.3)
    (dc.served old.dc new.dc h.1.request (Ok (Some h.0)) (of_system old s) h.1.gives) refl
serves old new i out.Noted s h =
    at_dc old new out.Noted s (same_tc old new h.1)
    (dc.served old.dc new.dc h.0.request (Ok None) (of_system old s) h.0.gives) refl
serves old new i (out.Refused r) s (inl h) = unchanged old new (out.Refused r) s h.1 (by h.0)
  where
    by : IsUnsent old.requests i r ⊎ Unreplied old i r → is_foreign r ≡ false
    by (inl unsent) = ap is_foreign unsent.0
    by (inr room) =
        room_other (serve_refusal old.dc room.request) (is_replied_to room.request) r (serve_other old.dc room.request)
        room.refused
serves old new i (out.Refused r) s (inr h) =
    dc_ends old new r s h.1 (dc.served old.dc new.dc h.0.request (Err r) (of_system old s) h.0.gives)
serves old new i _ s h = absurd h

-- ---- crashes and restarts: devices stay as they were

crashes_tc : (old new : NodeView) (more bytes : ℕ) (o : Out) → HasSoundDevices old → CrashesTcTo old more bytes o new
    → Safe new o
crashes_tc old new more bytes out.Down s h =
    tc_is old new _ out.Down s (ap (λ (x : NodeView). x.dc) h.1) (ap (λ (x : TcSide). x.tc) h.0.1.2) s.log refl
crashes_tc old new more bytes out.Nothing s h =
    tc_is old new old.tc out.Nothing s (ap (λ (x : NodeView). x.dc) h.1) (ap (λ (x : TcSide). x.tc) h.0.1) s.log refl
crashes_tc old new more bytes _ s h = absurd h

restarts_tc : (old new : NodeView) (o : Out) → HasSoundDevices old → RestartsTcTo old o new → Safe new o
restarts_tc old new (out.Up count) s h =
    at_tc old new (out.Up count) s (ap (λ (x : NodeView). x.dc) h.1)
    (sound_opened old.tc.usage new.tc.usage s.log h.0.2.used) refl
restarts_tc old new out.Nothing s h =
    tc_is old new old.tc out.Nothing s (ap (λ (x : NodeView). x.dc) h.1) (ap (λ (x : TcSide). x.tc) h.0.1) s.log refl
restarts_tc old new (out.Refused r) s h =
    let e = ends_opening old.tc.usage new.tc.usage r s.log h.0.1 h.0.3 in
    at_tc old new (out.Refused r) s (ap (λ (x : NodeView). x.dc) h.1) e.sound e.other
restarts_tc old new _ s h = absurd h

dc_as : (old new : NodeView) (d : DcView) (o : Out) → HasSoundDevices old → new.tc ≡ old.tc → new.dc ≡ d
    → AreSound d.system → says_foreign o ≡ false → Safe new o
dc_as old new d o s same is sound quiet =
    at_dc old new o s same (subst (λ (x : DcView). AreSound x.system) (sym is) sound) quiet

crashes_dc : (old new : NodeView) (more bytes : ℕ) (o : Out) → HasSoundDevices old → CrashesDcTo old more bytes o new
    → Safe new o
crashes_dc old new more bytes out.Down s h =
    dc_as old new _ out.Down s (ap (λ (x : NodeView). x.tc) h.1) (ap (λ (x : DcSide). x.dc) h.0.1.2)
    (record { log = s.system_log; pages = s.pages }) refl
crashes_dc old new more bytes out.Nothing s h =
    dc_as old new old.dc out.Nothing s (ap (λ (x : NodeView). x.tc) h.1) (ap (λ (x : DcSide). x.dc) h.0.1)
    (of_system old s) refl
crashes_dc old new more bytes _ s h = absurd h

restarts_dc : (old new : NodeView) (o : Out) → HasSoundDevices old → RestartsDcTo old o new → Safe new o
restarts_dc old new (out.Up count) s h =
    at_dc old new (out.Up count) s (ap (λ (x : NodeView). x.tc) h.1)
    (dc.restarted_up old.dc new.dc (of_system old s) h.0.3) refl
restarts_dc old new out.Nothing s h =
    dc_as old new old.dc out.Nothing s (ap (λ (x : NodeView). x.tc) h.1) (ap (λ (x : DcSide). x.dc) h.0.1)
    (of_system old s) refl
restarts_dc old new (out.Refused r) s h =
    let e = dc.restarted_down old.dc new.dc r (of_system old s) h.0.2 in
    at_dc old new (out.Refused r) s (ap (λ (x : NodeView). x.tc) h.1) e.sound e.other
restarts_dc old new _ s h = absurd h

-- ---- events

-- an event of a component that doesn't run is refused, and nothing changes
if_up : (old new : NodeView) (up : Bool) (r : Refusal) (o : Out) (Does : Type 0) → HasSoundDevices old
    → is_foreign r ≡ false → (Does → Safe new o) → IfUp up r old o new Does → Safe new o
if_up old new true r o Does s other does h = does h
if_up old new false r o Does s other does h = unchanged old new o s h.1 (ap says_foreign h.0 ∙ other)

pub range_other : (low : Bytes) (high : Option Bytes) → is_foreign (down_refusal low high) ≡ false
range_other low high = by (ends_above high low)
  where
    by : (b : Bool) → is_foreign (if b then NotConnected else BadRange) ≡ false
    by true = refl
    by false = refl

safe : (old new : NodeView) (e : Event) (o : Out) → HasSoundDevices old → SetsNone e → StepsTo old e o new
    → Safe new o
safe old new event.Reconnect o s none h = if_up old new old.tc_up NotConnected o _ s refl (reconnects old new o s) h
safe old new event.Recover o s none h = if_up old new old.tc_up NotConnected o _ s refl (recovers old new o s) h
safe old new event.Begin o s none h = if_up old new old.tc_up NotConnected o _ s refl (begins old new o s) h
safe old new (event.Act t op) o s none h = if_up old new old.tc_up NotConnected o _ s refl (acts old new t op o s) h
safe old new (event.Get t k) o s none h = if_up old new old.tc_up NotConnected o _ s refl (reads old new t (Key k) o s) h
safe old new (event.Scan t low high) o s none h =
    if_up old new old.tc_up (down_refusal low high) o _ s (range_other low high)
    (reads old new t (Range low high) o s) h
safe old new (event.Save t) o s none h = if_up old new old.tc_up NotConnected o _ s refl (saves old new t o s) h
safe old new (event.GoBack t p) o s none h = if_up old new old.tc_up NotConnected o _ s refl (goes_back old new t p o s) h
safe old new (event.Rollback t) o s none h = if_up old new old.tc_up NotConnected o _ s refl (rolls_back old new t o s) h
safe old new (event.Commit t) o s none h = if_up old new old.tc_up NotConnected o _ s refl (commits old new t o s) h
safe old new (event.Undo t) o s none h = if_up old new old.tc_up NotConnected o _ s refl (undoes old new t o s) h
safe old new event.Force o s none h = if_up old new old.tc_up NotConnected o _ s refl (forces old new o s) h
safe old new (event.Send t) o s none h = if_up old new old.tc_up NotConnected o _ s refl (sends old new t o s) h
safe old new (event.LowWater l) o s none h = if_up old new old.tc_up NotConnected o _ s refl (lowers old new l o s) h
safe old new event.Checkpoint o s none h = if_up old new old.tc_up NotConnected o _ s refl (asks_checkpoint old new o s) h
safe old new event.Tell o s none h = if_up old new old.tc_up NotConnected o _ s refl (tells old new o s) h
safe old new (event.Split k) o s none h = if_up old new old.dc_up NotConnected o _ s refl (parts old new k o s) h
safe old new (event.Merge k) o s none h = if_up old new old.dc_up NotConnected o _ s refl (joins old new k o s) h
safe old new event.Tend o s none h = if_up old new old.dc_up NotConnected o _ s refl (keeps_up old new o s) h
safe old new (event.Flush k) o s none h = if_up old new old.dc_up NotConnected o _ s refl (writes old new k o s) h
safe old new (event.Request i) o s none h = if_up old new old.dc_up NotConnected o _ s refl (serves old new i o s) h
safe old new (event.Reply i) o s none h = if_up old new old.tc_up NotConnected o _ s refl (takes old new i o s) h
safe old new (event.CrashTc frames bytes) o s none h = crashes_tc old new frames bytes o s h
safe old new event.RestartTc o s none h = restarts_tc old new o s h
safe old new (event.CrashDc frames bytes) o s none h = crashes_dc old new frames bytes o s h
safe old new event.RestartDc o s none h = restarts_dc old new o s h
safe old new (event.FailTc call) o s none h = absurd (cc none)
safe old new (event.FailDc device call) o s none h = absurd (cc none)

pub steps_are_sound : (old new : NodeView) (e : Event) (o : Out) → HasSoundDevices old → SetsNone e → IsStep old e o new
    → HasSoundDevices new × SaysNoFailure o
steps_are_sound old new e o s none h = let x = safe old new e o s none h.step in (x.devices, unsaid o x.quiet)

pub chains_are_sound : (old new : NodeView) (events : List Event) (outs : List Out) → HasSoundDevices old
    → AllByRecursion SetsNone events → Chain old events outs new
    → HasSoundDevices new × AllByRecursion SaysNoFailure outs
chains_are_sound old new [] [] s none h = (subst HasSoundDevices (sym h) s, tt)
chains_are_sound old new [] (o ∷ os) s none h = absurd h
chains_are_sound old new (e ∷ es) [] s none h = absurd h
chains_are_sound old new (e ∷ es) (o ∷ os) s none h =
    let first = steps_are_sound old h.0 e o s none.0 h.1 in
    let rest = chains_are_sound h.0 new es os first.0 none.1 h.2 in
    (rest.0, (first.1, rest.1))

-- ---- settling

-- it sets no failure
round_sets_none : (w : NodeView) (r : Round) → AllByRecursion SetsNone (events_of w r)
round_sets_none w round.RestartDc = (refl, tt)
round_sets_none w round.RestartTc = (refl, tt)
round_sets_none w round.Connect = (refl, (refl, (refl, tt)))
round_sets_none w round.Recover = (refl, (refl, (refl, tt)))
round_sets_none w round.Lose = (refl, tt)
round_sets_none w (round.Exchange t) = (refl, (refl, (refl, tt)))
round_sets_none w (round.Undo t) = (refl, tt)
round_sets_none w round.Force = (refl, tt)

plays_soundly : (old new : NodeView) (events : List Event) (outs : List Out) → HasSoundDevices old
    → AllByRecursion SetsNone events → Plays old events outs new → HasSoundDevices new
plays_soundly old new [] [] s none h = subst HasSoundDevices (sym h) s
plays_soundly old new [] (o ∷ os) s none h = absurd h
plays_soundly old new (e ∷ es) [] s none h = absurd h
plays_soundly old new (e ∷ es) (o ∷ os) s none h =
    plays_soundly h.0 new es os (steps_are_sound old h.0 e o s none.0 h.1).0 none.1 h.3

rounds_are_sound : (old new : NodeView) (rounds : List Round) (outs : List Out) → HasSoundDevices old
    → Rounds old rounds outs new → HasSoundDevices new
rounds_are_sound old new [] outs s h = subst HasSoundDevices (sym h.1) s
rounds_are_sound old new (r ∷ rs) outs s h =
    rounds_are_sound h.0 new rs h.2 (plays_soundly old h.0 (events_of old r) h.1 s (round_sets_none old r) h.5) h.6

stops_soundly : (old new : NodeView) (events : List Event) (outs : List Out) (r : Refusal) → HasSoundDevices old
    → AllByRecursion SetsNone events → StopsAt old events outs r new → Safe new (out.Refused r)
stops_soundly old new [] outs r s none h = absurd h
stops_soundly old new (e ∷ es) [] r s none (inl h) = unchanged old new (out.Refused r) s h.1 (ap is_foreign h.0)
stops_soundly old new (e ∷ es) [] r s none (inr h) = safe old new e (out.Refused r) s none.0 h.step
stops_soundly old new (e ∷ es) (o ∷ os) r s none h =
    stops_soundly h.0 new es os r (steps_are_sound old h.0 e o s none.0 h.1).0 none.1 h.3

pub settles_soundly : (old new : NodeView) (most : Option ℕ) (before after : List Out) (result : Result Bool Refusal)
    → HasSoundDevices old → Settles old most before after result new → HasSoundDevices new × (result ≢ Err Device)
settles_soundly old new most before after (Ok true) s h =
    (rounds_are_sound old new h.0.rounds h.0.outs s h.0.played, λ is. cc)
settles_soundly old new most before after (Ok false) s h =
    (rounds_are_sound old new h.0.rounds h.0.outs s h.0.played, λ is. cc)
settles_soundly old new most before after (Err r) s h =
    let b = h.0 in
    let last = rounds_are_sound old b.last b.rounds.rounds b.rounds.outs s b.rounds.played in
    let x = stops_soundly b.last new (events_of b.last b.round) b.stopped.outs r last (round_sets_none b.last b.round)
    b.stopped.stops in
    (x.devices, λ is. unsaid (out.Refused r) x.quiet (ap as_refused is))
  where
    as_refused : Result Bool Refusal → Out
    as_refused (Ok x) = out.Nothing
    as_refused (Err r) = out.Refused r
