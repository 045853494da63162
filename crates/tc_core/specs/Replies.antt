-- What the transaction component makes of a reply.
use Rattle.std.specs.Prelude.{◌≡◌, ℕ, ◌+◌, ◌==◌, ◌&&◌, ◌||◌, Bool, true, false, not, nat_lt, [], ◌∷◌, List, Option, Some, None, is_some, Result, Ok, Err, length, if◌then◌else◌}
use Rattle.record_key.specs.declared.op.Answer.{Answer}
use Rattle.record_key.specs.Table.{Bytes}
use Rattle.tc_locks.specs.declared.span.Span.{Span}
use Rattle.tc_locks.specs.declared.span.Span.TheVariants.{Key, Range}
use Rattle.record_key.specs.declared.refusal.Refusal.{Refusal}
use Rattle.record_key.specs.declared.refusal.Refusal.TheVariants.{Stale, NumbersSpent}
use Rattle.record_key.specs.FirstCause.{first_of}
use Rattle.codec.specs.declared.reply.Reply.{Reply}
use Rattle.codec.specs.declared.reply.Reply.TheVariants as says
use Rattle.codec.specs.Replies.{session_of}
use Rattle.tc_core.specs.declared.open_txn.OpenTxn.{OpenTxn}
use Rattle.tc_core.specs.declared.open_txn.Read.{Read}
use Rattle.tc_core.specs.declared.open_txns.Wanted.TheVariants.{Reader}
use Rattle.tc_core.specs.declared.phase.Phase.{Phase}
use Rattle.tc_core.specs.declared.phase.Phase.TheVariants as phase
use Rattle.tc_core.specs.declared.told.Told.{Told}
use Rattle.tc_core.specs.declared.told.Told.TheVariants as told
use Rattle.history.specs.declared.record.Record.{Record}
use Rattle.history.specs.declared.record.Record.TheVariants as is
use Rattle.history.specs.Log.{record_at, answer_of, request_in, step_in}
use Rattle.tc_log.specs.LogView.{is_spent}
use Rattle.tc_core.specs.OpenTxns.{find, oldest, wants}
use Rattle.tc_core.specs.TcView.{TcView, rolls_back}
use Rattle.tc_core.specs.Refusing.{Refuses}
use Rattle.tc_core.specs.Changes.{answered, answered_lost, was_told, checkpointed, undoing_or_running}

-- a message isn't of the session that runs, or none runs
abbrev pub is_of_another : ℕ → ℕ → Bool
is_of_another running s = (running == 0) || not (s == running)

abbrev pub is_stale : TcView → ℕ → Bool
is_stale w s = is_of_another w.session s

-- the answer of this number is taken: clients are served, or it is the one that redo waits for
abbrev pub takes : ℕ → Phase → ℕ → Bool
takes s phase.Unconnected n = false
takes s phase.Connecting n = false
takes s (phase.Redoing next ending) n = (next == n) && nat_lt n s
takes s _ n = true

abbrev pub is_number : Option ℕ → ℕ → Bool
is_number None n = false
is_number (Some m) n = m == n

abbrev pub if_awaits : ℕ → Option OpenTxn → Option OpenTxn
if_awaits n None = None
if_awaits n (Some o) = if is_number o.waiting n then Some o else None

abbrev pub asker : Option ℕ → List OpenTxn → Option OpenTxn
asker None os = None
asker (Some t) os = find t os

-- the open transaction whose record it is, where it waits for the answer
abbrev pub awaiting : TcView → ℕ → Option OpenTxn
awaiting w n = if_awaits n (asker (step_in (record_at w.log n)) w.open_txns)

-- what is awaited still once this number was answered
abbrev pub left_awaited : Option ℕ → ℕ → Option ℕ
left_awaited None n = None
left_awaited (Some m) n = if m == n then None else Some m

-- redo goes on after this number, and undo where it awaited this answer
abbrev pub next_phase : Phase → ℕ → Phase
next_phase (phase.Redoing next ending) n = phase.Redoing (n + 1) false
next_phase (phase.Undoing waiting) n = phase.Undoing (left_awaited waiting n)
next_phase p n = p

abbrev pub passed : TcView → ℕ → TcView
passed w n = record w { phase = next_phase w.phase n }

-- what a client is told of an answer: nothing where it is a compensation's
abbrev pub told_of : OpenTxn → ℕ → Answer → Told
told_of o n a = if rolls_back o then told.Undone n else told.Answered o.txn a

-- what is told, and what is left
abbrev pub Outcome : Type 0
Outcome = Told × TcView

-- the record of this number asks for something and has no answer
abbrev pub lacks : TcView → ℕ → Bool
lacks w n = is_some (request_in (record_at w.log n)) && not (is_some (answer_of w.log n))

-- of a loser's request that was answered nobody is told, but that a compensation was performed
abbrev pub told_lost : Option Record → ℕ → Told
told_lost (Some (is.Comp txn undoes next inverse)) n = told.Undone n
told_lost _ n = told.Nothing

-- a loser's answer is logged where there was none; without one nothing changes
abbrev pub on_lost : TcView → ℕ → Option Answer → Outcome
on_lost w n None = (told.Nothing, w)
on_lost w n (Some a) = (told_lost (record_at w.log n) n, passed (answered_lost w n a) n)

-- a transaction that waits for the answer has it logged
abbrev pub on_awaited : TcView → ℕ → Option Answer → Option OpenTxn → Outcome
on_awaited w n a None = if lacks w n then on_lost w n a else (told.Nothing, passed w n)
on_awaited w n None (Some o) = (told.Nothing, w)
on_awaited w n (Some a) (Some o) = (told_of o n a, passed (answered w o n a) n)

abbrev pub on_answered : TcView → ℕ → Option Answer → Outcome
on_answered w n a = if takes w.session w.phase n then on_awaited w n a (awaiting w n) else (told.Nothing, w)

-- the session runs: redo begins one past the greatest number that was checkpointed
abbrev pub on_connected : TcView → Phase → Outcome
on_connected w phase.Connecting =
    (told.Connected w.session, record w { phase = phase.Redoing (w.checkpointed + 1) false })
on_connected w _ = (told.Nothing, w)

-- the end of redo was sent, and is replied to: losers are undone, where there are any
abbrev pub on_redo_ended : TcView → Phase → Outcome
on_redo_ended w (phase.Redoing next true) = (told.RedoEnded w.session, record w { phase = undoing_or_running w.losers })
on_redo_ended w _ = (told.Nothing, w)

-- the checkpoint that was asked for is logged; of another number none is
abbrev pub on_checkpointed : TcView → ℕ → Outcome
on_checkpointed w l =
    if is_number w.checkpointing l then (told.CheckpointLogged (length w.log + 1), checkpointed w l) else
    (told.Nothing, w)

-- who asked the read of this number and waits for it still
abbrev pub reader : TcView → ℕ → Option OpenTxn
reader w n = oldest (wants (Reader n)) w.open_txns

abbrev pub span_read : Option Read → Option Span
span_read None = None
span_read (Some r) = Some r.span

abbrev pub is_key : Option Span → Bool
is_key (Some (Key k)) = true
is_key _ = false

abbrev pub is_range : Option Span → Bool
is_range (Some (Range low high)) = true
is_range _ = false

-- it is told where the reply is of the kind that it asked for
abbrev pub on_row : TcView → Option Bytes → Option OpenTxn → Outcome
on_row w v None = (told.Nothing, w)
on_row w v (Some o) = if is_key (span_read o.reading) then (told.Row o.txn v, was_told w o) else (told.Nothing, w)

abbrev pub on_rows : TcView → List (Bytes × Bytes) → Option OpenTxn → Outcome
on_rows w rows None = (told.Nothing, w)
on_rows w rows (Some o) =
    if is_range (span_read o.reading) then (told.Rows o.txn rows, was_told w o) else (told.Nothing, w)

abbrev pub on_reply : TcView → Reply → Outcome
on_reply w (says.Connected s) = on_connected w w.phase
on_reply w (says.Answered s n a) = on_answered w n a
on_reply w (says.RedoEnded s) = on_redo_ended w w.phase
on_reply w (says.Row s r v) = on_row w v (reader w r)
on_reply w (says.Rows s r rows) = on_rows w rows (reader w r)
on_reply w (says.Checkpointed s l) = on_checkpointed w l

-- a reply comes to what its kind does
pub record TakesReply (old : TcView) (reply : Reply) (what : Told) (new : TcView) : Type 0 where
  pub told : what ≡ (on_reply old reply).0
  pub left : new ≡ (on_reply old reply).1

-- an answer is logged
abbrev pub is_logged : TcView → ℕ → Option Answer → Option OpenTxn → Bool
is_logged w n (Some a) (Some o) = takes w.session w.phase n
is_logged w n (Some a) None = takes w.session w.phase n && lacks w n
is_logged w n None o = false

-- something is logged, which alone takes memory: an answer, or a checkpoint
abbrev pub logs : TcView → Reply → Bool
logs w (says.Answered s n a) = is_logged w n a (awaiting w n)
logs w (says.Checkpointed s l) = is_number w.checkpointing l
logs w _ = false

-- the log has no number left for it
abbrev pub answered_refusal_of : TcView → ℕ → Option Answer → Option Refusal
answered_refusal_of w n a = first_of ((is_logged w n a (awaiting w n) && is_spent w.log, NumbersSpent) ∷ [])

abbrev pub checkpointed_refusal_of : TcView → ℕ → Option Refusal
checkpointed_refusal_of w l = first_of ((is_number w.checkpointing l && is_spent w.log, NumbersSpent) ∷ [])

abbrev pub reply_refusal : TcView → Reply → Option Refusal
reply_refusal w reply = first_of
    ((is_stale w (session_of reply), Stale) ∷ (logs w reply && is_spent w.log, NumbersSpent) ∷ [])

abbrev pub ReplyGives : TcView → Reply → Result Told Refusal → TcView → Type 0
ReplyGives old reply (Ok what) new = (reply_refusal old reply ≡ None) × TakesReply old reply what new
ReplyGives old reply (Err r) new = Refuses (reply_refusal old reply) (logs old reply) (logs old reply) old r new
