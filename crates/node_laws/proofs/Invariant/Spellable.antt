-- What is sent has a spelling: numbers of records and reads are few, and rows rise.
use Rattle.std.proofs.Common.{◌≡◌, ℕ, ◌+◌, ◌<◌, ◌≤◌, List, [], ◌∷◌, length, refl, Bool, true, false, Option, Some, None, sym, subst, arith, inl, inr}
use Rattle.std.specs.Prelude.{◌^◌, MatchBool, Ok}
use Rattle.std.proofs.lemmas.Bool.Decides.{nat_tests}
use Rattle.std.specs.FinMap as map
use Rattle.record_key.specs.Table.{Bytes, Table, key_of, answer_in}
use Rattle.record_key.specs.Rows.{AreInOrder}
use Rattle.record_key.proofs.Rows.{own_rows}
use Rattle.record_key.specs.Order.{has_key, rows_in}
use Rattle.log_laws.proofs.LegalLogs.{request_number}
use Rattle.tc_locks.specs.declared.span.Span.{Span}
use Rattle.tc_locks.specs.declared.span.Span.TheVariants.{Key, Range}
use Rattle.codec.specs.Fields.{IsNumber}
use Rattle.codec.specs.declared.request.Request.{Request}
use Rattle.codec.specs.declared.request.Request.TheVariants as asks
use Rattle.codec.specs.declared.reply.Reply.{Reply}
use Rattle.codec.specs.declared.reply.Reply.TheVariants as says
use Rattle.codec.specs.Requests.{HasRequestNumbers, IsRequest}
use Rattle.codec.specs.Replies.{IsOrdered}
use Rattle.dc_ab_lsn.specs.AbLsn.{saved_in}
use Rattle.dc_leaf.proofs.Halves.{retained}
use Rattle.dc_tree.specs.Leaves.{leaf_at, rows_of}
use Rattle.dc_core.specs.DcView.{DcView, leaves, captures_at}
use Rattle.dc_core.specs.Serves.{Serves, knows, performs, range}
use Rattle.tc_core.specs.TcView.{TcView}
use Rattle.record_key.specs.declared.op.Op.{Op}
use Rattle.record_key.specs.declared.refusal.Refusal.TheVariants.{NumbersSpent}
use Rattle.record_key.specs.FirstCause.{first_of}
use Rattle.history.specs.declared.record.Record.{Record}
use Rattle.history.specs.Log.{Requests}
use Rattle.tc_log.specs.LogView.{is_spent, spent_refusal}
use Rattle.tc_core.specs.declared.phase.Phase.{Phase}
use Rattle.tc_core.specs.declared.phase.Phase.TheVariants as phase
use Rattle.tc_core.specs.declared.told.Connecting.{Connecting}
use Rattle.tc_core.specs.declared.told.RecoverStep.TheVariants as step
use Rattle.tc_core.specs.Calls.{read_request, IsRequestOf, ResendGives, IsAwaitedOp, ReconnectGives}
use Rattle.tc_core.specs.Recovery.{SendsAt, RecoverGives, redo_request}
use Rattle.tc_core.specs.Undo.{FindsRequest}
use Rattle.node_laws.proofs.Invariant.LastRecord.{last_within}
use Rattle.tc_core.specs.Kept.{IsTc}

session_number : (w : TcView) → IsTc w → IsNumber w.session
session_number w k = omega (arith, k.session, k.within, k.few.records)

read_numbers : (w : TcView) (n : ℕ) (q : Span) → IsTc w → n ≤ w.reads → HasRequestNumbers (read_request w.session n q)
read_numbers w n (Key k) tc few = (session_number w tc, omega (arith, few, tc.few.reads))
read_numbers w n (Range low high) tc few = (session_number w tc, omega (arith, few, tc.few.reads))

perform_numbers : (w : TcView) (n : ℕ) (o : Op) → IsTc w → Requests w.log n o
    → HasRequestNumbers (asks.Perform w.session n w.stable o)
perform_numbers w n o k requests =
    let number = request_number w.log n o requests in
    (session_number w k, (omega (arith, number.bounded, k.few.records), omega (arith, k.within, k.few.records)))

request_numbers : (w : TcView) (t : ℕ) (request : Request) → IsTc w → IsRequestOf w t request
    → HasRequestNumbers request
request_numbers w t request k (inl r) =
    subst HasRequestNumbers (sym r.is) (perform_numbers w r.number r.op k r.requests)
request_numbers w t request k (inr r) =
    let asked = (k.reading.each r.open_txn.txn r.open_txn r.read r.at.is r.reading).asked in
    subst HasRequestNumbers (sym r.is) (read_numbers w r.read.number r.read.span k asked)

pub resend_numbers : (w : TcView) (t : ℕ) (request : Request) → IsTc w → ResendGives w t (Ok request)
    → HasRequestNumbers request
resend_numbers w t request k h = request_numbers w t request k h.1

-- what is sent as the bytes of the log has a spelling
pub awaited_spelled : (w : TcView) (t n : ℕ) (bytes : List ℕ) → IsTc w → (h : IsAwaitedOp w t n bytes)
    → IsRequest (asks.Perform w.session n w.stable h.asked.op)
awaited_spelled w t n bytes k h =
    let numbers = resend_numbers w t (asks.Perform w.session n w.stable h.asked.op) k h.gives in
    (numbers.0, (numbers.1.0, (numbers.1.1, h.asked.fits)))

-- the next record has a number
unspent_few : (log : List Record) → spent_refusal log ≡ None → length log + 1 < 2 ^ 48
unspent_few log h = by (is_spent log) refl h
  where
    by : (b : Bool) → is_spent log ≡ b → first_of ((b, NumbersSpent) ∷ []) ≡ None → length log + 1 < 2 ^ 48
    by true spent h = absurd (cc)
    by false unspent h = grind (arith, nat_tests, unspent)

pub connect_numbers : (old new : TcView) (c : Connecting) → ReconnectGives old (Ok c) new → HasRequestNumbers c.request
connect_numbers old new c h =
    let few = unspent_few old.log h.0 in
    subst HasRequestNumbers (sym h.1) (omega (arith, few), omega (arith, few, last_within old.log))

redo_numbers : (w : TcView) (next : ℕ) (found : Option (ℕ × Op)) → IsTc w → FindsRequest w.log next w.session found
    → HasRequestNumbers (redo_request w found)
redo_numbers w next None k finds = session_number w k
redo_numbers w next (Some x) k finds = perform_numbers w x.0 x.1 k finds.2

pub recover_numbers : (old new : TcView) (request : Request) → IsTc old → RecoverGives old (Ok (step.Sends request)) new
    → HasRequestNumbers request
recover_numbers old new request k h = by old.phase h.1
  where
    by : (p : Phase) → SendsAt old p request new → HasRequestNumbers request
    by phase.Unconnected h = absurd h
    by phase.Connecting h =
        subst HasRequestNumbers (sym h.0)
        (session_number old k, omega (arith, last_within old.log, k.few.records))
    by (phase.Redoing next ending) h =
        subst HasRequestNumbers (sym h.request_is) (redo_numbers old next h.found k h.finds)
    by (phase.Undoing None) h = absurd h
    by (phase.Undoing (Some n)) h = subst HasRequestNumbers (sym h.request_is) (perform_numbers old n h.op k h.requests)
    by phase.Running h = absurd h

-- what is spelled has numbers
pub numbers_spelled : (q : Request) → IsRequest q → HasRequestNumbers q
numbers_spelled (asks.Connect s end) h = h
numbers_spelled (asks.Perform s n stable o) h = (h.0, (h.1.0, h.1.1.0))
numbers_spelled (asks.Get s n k) h = (h.0, h.1.0)
numbers_spelled (asks.Scan s n lo hi) h = (h.0, h.1.0)
numbers_spelled (asks.LowWater s l) h = h
numbers_spelled (asks.Checkpoint s l) h = h
numbers_spelled (asks.RedoEnd s) h = h
numbers_spelled (asks.StableEnd s stable) h = h

-- a range of a table's rows rises
rows_rise : (lo : Bytes) (hi : Option Bytes) (t : Table) → AreInOrder (rows_in (range lo hi) t)
rows_rise lo hi t = (retained (map.entries t) (λ k. has_key (range lo hi) k) (own_rows t)).0

reply_is : {A : Type 0} {a b : A} → Some a ≡ Some b → a ≡ b
reply_is e = cc

pub reply_ordered : (q : Request) (reply : Reply) (old new : DcView) → HasRequestNumbers q
    → Serves old q (Some reply) new → IsOrdered reply
reply_ordered (asks.Connect s end) reply old new fits h = subst IsOrdered (sym (reply_is h.0)) fits.0
reply_ordered (asks.Perform s n stable o) reply old new fits h = pick (captures_at old (key_of o) n) h
  where
    pick : (b : Bool)
        → MatchBool b ((Some reply ≡ Some (says.Answered s n (saved_in (leaf_at (leaves old) (key_of o)).ab.entries n)))
        × (new ≡ knows old stable))
        ((Some reply ≡ Some (says.Answered s n (Some (answer_in (leaf_at (leaves old) (key_of o)).rows o))))
        × (new ≡ knows (performs old n o) stable)) → IsOrdered reply
    pick true h = subst IsOrdered (sym (reply_is h.0)) (fits.0, fits.1.0)
    pick false h = subst IsOrdered (sym (reply_is h.0)) (fits.0, fits.1.0)
reply_ordered (asks.Get s n k) reply old new fits h = subst IsOrdered (sym (reply_is h.0)) fits
reply_ordered (asks.Scan s n lo hi) reply old new fits h =
    subst IsOrdered (sym (reply_is h.0)) (fits.0, fits.1, rows_rise lo hi (rows_of (leaves old)))
reply_ordered (asks.LowWater s l) reply old new fits h = let e : Some reply ≡ None = h.0 in absurd (cc)
reply_ordered (asks.Checkpoint s l) reply old new fits h = subst IsOrdered (sym (reply_is h.0)) fits
reply_ordered (asks.RedoEnd s) reply old new fits h = subst IsOrdered (sym (reply_is h.0)) fits
reply_ordered (asks.StableEnd s stable) reply old new fits h = let e : Some reply ≡ None = h.0 in absurd (cc)
