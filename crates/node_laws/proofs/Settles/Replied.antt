-- What the data component replies to what settling sends.
use Rattle.std.proofs.Common.{◌≡◌, ℕ, Bool, true, false, List, Option, Some, None, refl, sym, ap, ◌∙◌, subst, inl, inr, MatchBool}
use Rattle.record_key.specs.declared.op.Op.{Op}
use Rattle.record_key.specs.declared.op.Answer.{Answer}
use Rattle.record_key.specs.Table.{Bytes, key_of, answer_in}
use Rattle.history.specs.Log.{Requests}
use Rattle.record_key.specs.Order.{rows_in}
use Rattle.tc_locks.specs.declared.span.Span.{Span}
use Rattle.tc_locks.specs.declared.span.Span.TheVariants.{Key, Range}
use Rattle.codec.specs.declared.request.Request.{Request}
use Rattle.codec.specs.declared.request.Request.TheVariants as asks
use Rattle.codec.specs.declared.reply.Reply.{Reply}
use Rattle.codec.specs.declared.reply.Reply.TheVariants as says
use Rattle.dc_ab_lsn.specs.AbLsn.{saved_in}
use Rattle.dc_tree.specs.Leaves.{leaf_at, rows_of}
use Rattle.dc_core.specs.DcView.{DcView, leaves, captures_at, value_at}
use Rattle.dc_core.specs.Serves.{Serves, performs, knows, range}
use Rattle.tc_core.specs.declared.open_txn.OpenTxn.{OpenTxn}
use Rattle.tc_core.specs.OpenTxns.{find}
use Rattle.tc_core.specs.TcView.{TcView}
use Rattle.tc_core.specs.Changes.{was_told}
use Rattle.tc_core.specs.Calls.{read_request, IsRequestOf}
use Rattle.codec.specs.Replies.{session_of}
use Rattle.tc_core.specs.Replies.{is_key, is_range, span_read, on_row, on_rows, on_reply}
use Rattle.tc_core.specs.Recovery.{redo_request}
use Rattle.tc_core.specs.Kept.{IsTc}
use Rattle.tc_core.proofs.KeepsReads.{reads}
use Rattle.node_laws.specs.Node.{NodeView}
use Rattle.node_laws.specs.Kept.{IsKept}
use Rattle.node_laws.proofs.Invariant.AtKeys.{own_low}
use Rattle.node_laws.proofs.Invariant.Sources.{low_now}
use Rattle.node_laws.proofs.Invariant.Announced.{all_answered}
use Rattle.node_laws.proofs.Invariant.Repeats.{unsaved_low}
use Rattle.node_laws.proofs.Settles.Exchanges.{HasReply}
use Rattle.node_laws.proofs.Settles.RoundsLeft.{IsSound}

-- what the data component replies to an operation of the log
pub record IsSoundReply (w : NodeView) (s n : ℕ) (reply : Reply) : Type 0 where
  pub answer : Option Answer
  pub reply_is : reply ≡ says.Answered s n answer
  pub sound : IsSound w.tc n answer

pub some_reply : (a b : Reply) → Some a ≡ Some b → a ≡ b
some_reply a b e = cc

pub sound_reply : (w : NodeView) (s n stable : ℕ) (o : Op) (reply : Reply) (dc : DcView) → IsKept w
    → Requests w.tc.log n o
    → Serves w.dc (asks.Perform s n stable o) (Some reply) dc → IsSoundReply w s n reply
sound_reply w s n stable o reply dc k requests h = pick (captures_at w.dc (key_of o) n) refl h
  where
    pick : (b : Bool) → captures_at w.dc (key_of o) n ≡ b
        → MatchBool b ((Some reply
        ≡ Some (says.Answered s n (saved_in (leaf_at (leaves w.dc) (key_of o)).ab.entries n))) ×
        (dc ≡ knows w.dc stable))
        ((Some reply ≡ Some (says.Answered s n (Some (answer_in (leaf_at (leaves w.dc) (key_of o)).rows o))))
        × (dc ≡ knows (performs w.dc n o) stable)) → IsSoundReply w s n reply
    pick true captured h = record {
      answer = saved_in (leaf_at (leaves w.dc) (key_of o)).ab.entries n;
      reply_is = some_reply reply (says.Answered s n (saved_in (leaf_at (leaves w.dc) (key_of o)).ab.entries n)) h.0;
      sound = λ none. all_answered w.tc.log w.tc.stable (leaf_at (leaves w.dc) (key_of o)).ab.low
          (low_now w.tc w.dc.stored k.source k.tc.within k.from (leaf_at (leaves w.dc) (key_of o))
          (own_low w (key_of o) k)) n o
          (unsaved_low (leaf_at (leaves w.dc) (key_of o)).ab n captured none) requests;
    }
    pick false new h = record {
      answer = Some (answer_in (leaf_at (leaves w.dc) (key_of o)).rows o);
      reply_is = some_reply reply (says.Answered s n (Some (answer_in (leaf_at (leaves w.dc) (key_of o)).rows o))) h.0;
      sound = λ none. absurd (cc);
    }

-- a row or rows to a read
abbrev pub IsReadReply : ℕ → ℕ → Span → Reply → Type 0
IsReadReply s n (Key k) reply = (v : Option Bytes) × (reply ≡ says.Row s n v)
IsReadReply s n (Range low high) reply = (rows : List (Bytes × Bytes)) × (reply ≡ says.Rows s n rows)

pub read_reply : (s n : ℕ) (q : Span) (old new : DcView) (reply : Reply)
    → Serves old (read_request s n q) (Some reply) new → IsReadReply s n q reply
read_reply s n (Key k) old new reply h = let v : Option Bytes = value_at old k in
    (v, some_reply reply (says.Row s n v) h.0)
read_reply s n (Range low high) old new reply h =
    let rows : List (Bytes × Bytes) = rows_in (range low high) (rows_of (leaves old)) in
    (rows, some_reply reply (says.Rows s n rows) h.0)

pub read_session : (s n : ℕ) (q : Span) (reply : Reply) → IsReadReply s n q reply → session_of reply ≡ s
read_session s n (Key k) reply h = ap session_of h.1
read_session s n (Range low high) reply h = ap session_of h.1

-- whoever waits for the read is told
pub told_read : (w : TcView) (o : OpenTxn) (s n : ℕ) (q : Span) (reply : Reply) → IsTc w
    → find o.txn w.open_txns ≡ Some o → o.reading ≡ Some (record { number = n; span = q })
    → IsReadReply s n q reply → (on_reply w reply).1 ≡ was_told w o
told_read w o s n (Key k) reply kept at some h =
    ap (λ x. (on_reply w x).1) h.1 ∙ ap (λ x. (on_row w h.0 x).1) (reads w o n (Key k) kept at some)
    ∙ (let key : is_key (span_read o.reading) ≡ true = ap (λ x. is_key (span_read x)) some in rw key refl)
told_read w o s n (Range low high) reply kept at some h =
    ap (λ x. (on_reply w x).1) h.1 ∙ ap (λ x. (on_rows w h.0 x).1) (reads w o n (Range low high) kept at some)
    ∙ (let range : is_range (span_read o.reading) ≡ true = ap (λ x. is_range (span_read x)) some in rw range refl)

-- these requests have replies
pub connect_replied : (s end : ℕ) → HasReply (asks.Connect s end)
connect_replied s end old new h = let e : None ≡ Some (says.Connected s) = h.0 in cc

redo_end_replied : (s : ℕ) → HasReply (asks.RedoEnd s)
redo_end_replied s old new h = let e : None ≡ Some (says.RedoEnded s) = h.0 in cc

pub perform_replied : (s n stable : ℕ) (o : Op) → HasReply (asks.Perform s n stable o)
perform_replied s n stable o old new h = pick (captures_at old (key_of o) n) h
  where
    pick : (b : Bool)
        → MatchBool b ((None ≡ Some (says.Answered s n (saved_in (leaf_at (leaves old) (key_of o)).ab.entries n)))
        × (new ≡ knows old stable))
        ((None ≡ Some (says.Answered s n (Some (answer_in (leaf_at (leaves old) (key_of o)).rows o))))
        × (new ≡ knows (performs old n o) stable)) → ⊥
    pick true h = let e : None ≡ Some (says.Answered s n (saved_in (leaf_at (leaves old) (key_of o)).ab.entries n)) =
        h.0 in cc
    pick false h = let e : None ≡ Some (says.Answered s n (Some (answer_in (leaf_at (leaves old) (key_of o)).rows o))) =
        h.0 in cc

pub redo_replied : (w : TcView) (found : Option (ℕ × Op)) → HasReply (redo_request w found)
redo_replied w None = redo_end_replied w.session
redo_replied w (Some x) = perform_replied w.session x.0 w.stable x.1

pub read_replied : (s n : ℕ) (q : Span) → HasReply (read_request s n q)
read_replied s n (Key k) old new h = let e : None ≡ Some (says.Row s n (value_at old k)) = h.0 in cc
read_replied s n (Range low high) old new h =
    let e : None ≡ Some (says.Rows s n (rows_in (range low high) (rows_of (leaves old)))) = h.0 in cc

pub request_replied : (w : TcView) (t : ℕ) (q : Request) → IsRequestOf w t q → HasReply q
request_replied w t q (inl r) = let P : Request → Type 0 = HasReply in
    subst P (sym r.is) (perform_replied w.session r.number w.stable r.op)
request_replied w t q (inr r) = let P : Request → Type 0 = HasReply in
    subst P (sym r.is) (read_replied w.session r.read.number r.read.span)
