-- A failed device is no call's cause of its own: a call that is refused so called a device that was due to fail. Nor are
-- bytes that are no log's.
use Rattle.std.proofs.Common.{◌≡◌, ℕ, Bool, true, false, List, [], ◌∷◌, Option, Some, None, IsTrue, refl, sym, ap, ◌∙◌, subst, inl, inr, true≢false}
use Rattle.std.specs.Prelude.{◌||◌, ◌&&◌, ◌==◌, not, nat_le, nat_lt, is_some, length, if◌then◌else◌}
use Rattle.tc_locks.specs.Meant.{range_of}
use Rattle.record_key.specs.declared.refusal.Refusal.{Refusal}
use Rattle.record_key.specs.declared.refusal.Refusal.TheVariants.{NotConnected, Redoing, NotOpen, RollingBack, Unanswered, Full, BadSavepoint, BadRange, NumbersSpent, Unsent, Stale, NotNow, Device, BadBytes}
use Rattle.record_key.specs.FirstCause.{first_of, or_else, RefusesAs, MayRefuse}
use Rattle.stable.specs.Usage.{Usage, is_due, is_next, called, called_often}
use Rattle.tc_log.specs.LogView.{is_spent, spent_refusal}
use Rattle.tc_locks.specs.declared.span.Span.{Span}
use Rattle.tc_core.specs.TcView.{TcView, is_unconnected, is_running, is_serving, is_rolling, is_waiting}
use Rattle.tc_core.specs.OpenTxns.{find}
use Rattle.tc_core.specs.Causes.{is_full, saves_of, has_savepoint, undo_logs, running_refusal, serving_refusal, open_refusal, idle_refusal, begin_refusal, commit_refusal, save_refusal, back_refusal, read_refusal, reads_spent, answered_refusal, undo_refusal, resend_refusal}
use Rattle.tc_core.specs.Recovery.{recover_refusal, undo_logs_at}
use Rattle.tc_core.specs.Replies.{reply_refusal, is_stale, logs}
use Rattle.codec.specs.declared.reply.Reply.{Reply}
use Rattle.codec.specs.Replies.{session_of}
use Rattle.record_key.specs.Order.{ends_above}
use Rattle.record_key.specs.Table.{Bytes}
use Rattle.dc_leaf.specs.Tops.{is_within}
use Rattle.dc_tree.specs.Leaves.{place_at}
use Rattle.dc_tree.specs.Parting.{may_split_at, may_merge_at}
use Rattle.dc_recovery.specs.Shape.{named}
use Rattle.codec.specs.declared.request.Request.{Request}
use Rattle.codec.specs.declared.request.Request.TheVariants as asks
use Rattle.dc_core.specs.DcView.{DcView}
use Rattle.dc_core.specs.Serves.{runs, session_refusal, after_redo_refusal, serve_refusal}
use Rattle.dc_core.specs.dc_store.specs.SystemView.{SystemView}
use Rattle.dc_core.specs.dc_store.specs.Changes.{leaf_in}
use Rattle.dc_core.specs.dc_store.specs.Uses.{FailsWhenDue}
use Rattle.dc_core.specs.dc_store.specs.Gives.{is_spent as is_full_log, pair_within, append_refusal, make_refusal, split_refusal, merge_refusal}
use Rattle.node_laws.specs.Node.{LacksRoom}
use Rattle.node_laws.specs.Sound.{IsSound}

-- ---- devices

pub sound_called : (u : Usage) → IsSound u → IsSound (called u)
sound_called u s = record { unset = s.unset; firm = s.firm }

pub sound_often : (n : ℕ) (u : Usage) → IsSound u → IsSound (called_often n u)
sound_often n u s = record { unset = s.unset; firm = s.firm }

pub not_due : (u : Usage) → IsSound u → IsTrue (is_due u) → ⊥
not_due u s due =
    let firm : is_due u ≡ is_next u.failing u.calls =
    ap (λ (b : Bool). b || is_next u.failing u.calls) s.firm in
    let never : is_next u.failing u.calls ≡ false = ap (λ (n : Option ℕ). is_next n u.calls) s.unset in
    true≢false (sym due ∙ firm ∙ never)

-- ---- refusals

-- no call has it for a cause of its own: a failed device, and bytes that are no log's
abbrev pub is_foreign : Refusal → Bool
is_foreign Device = true
is_foreign (BadBytes n) = true
is_foreign _ = false

-- the cause, if there is one, is another
abbrev pub IsOther : Option Refusal → Type 0
IsOther None = Unit {0}
IsOther (Some r) = is_foreign r ≡ false

abbrev AreOther : List (Bool × Refusal) → Type 0
AreOther [] = Unit {0}
AreOther (c ∷ cs) = (is_foreign c.1 ≡ false) × AreOther cs

one_more : (holds : Bool) (r : Refusal) (rest : Option Refusal) → is_foreign r ≡ false → IsOther rest
    → IsOther (if holds then Some r else rest)
one_more true r rest other others = other
one_more false r rest other others = others

first_other : (cs : List (Bool × Refusal)) → AreOther cs → IsOther (first_of cs)
first_other [] h = tt
first_other (c ∷ cs) h = one_more c.0 c.1 (first_of cs) h.0 (first_other cs h.1)

or_other : (a b : Option Refusal) → IsOther a → IsOther b → IsOther (or_else a b)
or_other (Some r) b h k = h
or_other None b h k = k

pub other_some : (a : Option Refusal) (r : Refusal) → IsOther a → a ≡ Some r → is_foreign r ≡ false
other_some a r h is = subst IsOther is h

pub refuses_other : (a : Option Refusal) (r : Refusal) → IsOther a → RefusesAs a r → is_foreign r ≡ false
refuses_other (Some c) r h is = ap is_foreign is ∙ h
refuses_other None r h is = ap is_foreign is

pub room_other : (a : Option Refusal) (sends : Bool) (r : Refusal) → IsOther a → LacksRoom a sends r
    → is_foreign r ≡ false
room_other (Some c) sends r h is = ap is_foreign is ∙ h
room_other None sends r h is = ap is_foreign is.1

pub may_other : (cause : Option Refusal) (u : Usage) (r : Refusal) → IsSound u → IsOther cause → MayRefuse cause r
    → FailsWhenDue u r → is_foreign r ≡ false
may_other (Some c) u r s o h due = ap is_foreign h ∙ o
may_other None u r s o (inl h) due = ap is_foreign h
may_other None u r s o (inr h) due = absurd (not_due u s (due h))

-- ---- the causes of each call

pub spent_other : (w : TcView) → IsOther (spent_refusal w.log)
spent_other w = first_other ((is_spent w.log, NumbersSpent) ∷ []) (refl, tt)

pub running_other : (w : TcView) → IsOther (running_refusal w)
running_other w =
    first_other ((is_unconnected w.phase, NotConnected) ∷ (not (is_running w.phase), Redoing) ∷ []) (refl, (refl, tt))

serving_other : (w : TcView) → IsOther (serving_refusal w)
serving_other w =
    first_other ((is_unconnected w.phase, NotConnected) ∷ (not (is_serving w.phase), Redoing) ∷ []) (refl, (refl, tt))

open_other : (w : TcView) (t : ℕ) → IsOther (open_refusal w t)
open_other w t =
    or_other (serving_refusal w) _ (serving_other w)
    (first_other ((not (is_some (find t w.open_txns)), NotOpen) ∷ []) (refl, tt))

pub idle_other : (w : TcView) (t : ℕ) → IsOther (idle_refusal w t)
idle_other w t =
    or_other (open_refusal w t) _ (open_other w t)
    (first_other ((is_rolling (find t w.open_txns), RollingBack) ∷ (is_waiting (find t w.open_txns), Unanswered) ∷ [])
    (refl, (refl, tt)))

pub begin_other : (w : TcView) → IsOther (begin_refusal w)
begin_other w =
    or_other (serving_refusal w) _ (serving_other w)
    (first_other ((is_full w.open_txns, Full) ∷ (is_spent w.log, NumbersSpent) ∷ []) (refl, (refl, tt)))

pub commit_other : (w : TcView) (t : ℕ) → IsOther (commit_refusal w t)
commit_other w t = or_other (idle_refusal w t) (spent_refusal w.log) (idle_other w t) (spent_other w)

pub save_other : (w : TcView) (t : ℕ) → IsOther (save_refusal w t)
save_other w t =
    or_other (idle_refusal w t) _ (idle_other w t)
    (first_other ((nat_le 16 (length (saves_of (find t w.open_txns))), Full) ∷ []) (refl, tt))

pub back_other : (w : TcView) (t s : ℕ) → IsOther (back_refusal w t s)
back_other w t s =
    or_other (idle_refusal w t) _ (idle_other w t)
    (first_other ((not (has_savepoint (saves_of (find t w.open_txns)) s), BadSavepoint) ∷ []) (refl, tt))

pub read_other : (w : TcView) (t : ℕ) (s : Span) → IsOther (read_refusal w t (range_of s))
read_other w t s =
    or_other _ (idle_refusal w t)
    (first_other ((not (ends_above (range_of s).hi (range_of s).lo), BadRange) ∷ []) (refl, tt)) (idle_other w t)

pub reads_other : (reads : ℕ) → IsOther (reads_spent reads)
reads_other reads = first_other ((nat_le 281474976710655 reads, NumbersSpent) ∷ []) (refl, tt)

pub undo_other : (w : TcView) (t : ℕ) → IsOther (undo_refusal w t)
undo_other w t =
    or_other (answered_refusal w t) _
    (or_other (open_refusal w t) _ (open_other w t)
    (first_other ((is_waiting (find t w.open_txns), Unanswered) ∷ []) (refl, tt)))
    (first_other ((undo_logs (find t w.open_txns) && is_spent w.log, NumbersSpent) ∷ []) (refl, tt))

pub resend_other : (w : TcView) (t : ℕ) → IsOther (resend_refusal w t)
resend_other w t =
    or_other (open_refusal w t) _ (open_other w t)
    (first_other ((not (is_waiting (find t w.open_txns)), Unsent) ∷ []) (refl, tt))

pub recover_other : (w : TcView) → IsOther (recover_refusal w)
recover_other w =
    first_other ((is_unconnected w.phase, NotConnected) ∷ (undo_logs_at w.phase && is_spent w.log, NumbersSpent) ∷ [])
    (refl, (refl, tt))

pub reply_other : (w : TcView) (reply : Reply) → IsOther (reply_refusal w reply)
reply_other w reply =
    first_other ((is_stale w (session_of reply), Stale) ∷ (logs w reply && is_spent w.log, NumbersSpent) ∷ [])
    (refl, (refl, tt))

session_other : (w : DcView) (s : ℕ) → IsOther (session_refusal w s)
session_other w s =
    first_other ((w.session == 0, NotConnected) ∷ (not (w.session == s), Stale) ∷ []) (refl, (refl, tt))

after_redo_other : (w : DcView) (s : ℕ) → IsOther (after_redo_refusal w s)
after_redo_other w s =
    or_other (session_refusal w s) _ (session_other w s) (first_other ((w.redo, Redoing) ∷ []) (refl, tt))

pub serve_other : (w : DcView) (q : Request) → IsOther (serve_refusal w q)
serve_other w (asks.Connect s end) =
    first_other ((not (runs w s) && not (nat_lt w.stored s), Stale)
    ∷ (not (runs w s) && is_full_log (length w.system.log), NumbersSpent) ∷ []) (refl, (refl, tt))
serve_other w (asks.Perform s n stable o) = session_other w s
serve_other w (asks.Get s r k) = after_redo_other w s
serve_other w (asks.Scan s r lo hi) = after_redo_other w s
serve_other w (asks.LowWater s l) = after_redo_other w s
serve_other w (asks.Checkpoint s l) = after_redo_other w s
serve_other w (asks.RedoEnd s) = session_other w s
serve_other w (asks.StableEnd s stable) = session_other w s

pub append_other : (v : SystemView) → IsOther (append_refusal v)
append_other v = first_other ((is_full_log (length v.log), NumbersSpent) ∷ []) (refl, tt)

pub make_other : (v : SystemView) → IsOther (make_refusal v)
make_other v = first_other ((is_full_log (length v.log) || is_full_log (named v.log), NumbersSpent) ∷ []) (refl, tt)

pub split_other : (v : SystemView) (k : Bytes) (known : ℕ) → IsOther (split_refusal v k known)
split_other v k known =
    first_other ((not (may_split_at v.leaves (place_at v.leaves k)), NotNow)
    ∷ (not (is_within known (leaf_in v (place_at v.leaves k))), NotNow)
    ∷ (is_full_log (length v.log) || is_full_log (named v.log), NumbersSpent) ∷ []) (refl, (refl, (refl, tt)))

pub merge_other : (v : SystemView) (k : Bytes) (known : ℕ) → IsOther (merge_refusal v k known)
merge_other v k known =
    first_other ((not (may_merge_at v.leaves (place_at v.leaves k)), NotNow)
    ∷ (not (pair_within known v (place_at v.leaves k)), NotNow)
    ∷ (is_full_log (length v.log), NumbersSpent) ∷ []) (refl, (refl, (refl, tt)))
