-- The halves of a node: what each may rely on there, and that a reply may lack room for its rows alone.
use Rattle.std.proofs.Common.{◌≡◌, ◌∙◌, ℕ, ◌+◌, Bool, true, false, true≢false, List, [], ◌∷◌, ◌++◌, length, length-append, Option, Some, None, refl, sym, ap, subst, arith, inl, inr}
use Rattle.std.specs.Prelude.{OnSome, MatchBool, Ok}
use Rattle.record_key.specs.Table.{key_of}
use Rattle.record_key.specs.declared.refusal.Refusal.{Refusal}
use Rattle.record_key.specs.declared.refusal.Refusal.TheVariants.{NoMemory, NotConnected}
use Rattle.codec.specs.declared.request.Request.{Request}
use Rattle.codec.specs.declared.request.Request.TheVariants as asks
use Rattle.codec.specs.declared.reply.Reply.{Reply}
use Rattle.codec.specs.Replies.{has_rows}
use Rattle.dc_core.specs.DcView.{DcView, captures_at}
use Rattle.dc_core.specs.Serves.{MayAsk, Serves}
use Rattle.tc_core.specs.declared.phase.Phase.{Phase}
use Rattle.tc_core.specs.declared.phase.Phase.TheVariants as phase
use Rattle.tc_core.specs.declared.told.RecoverStep.TheVariants as step
use Rattle.tc_core.specs.Calls.{ResendGives}
use Rattle.tc_core.specs.Recovery.{SendsAt, RecoverGives}
use Rattle.tc_core.specs.TcView.{TcView}
use Rattle.node_laws.specs.declared.event.Event.{Event}
use Rattle.node_laws.specs.declared.event.Event.TheVariants as event
use Rattle.node_laws.specs.declared.event.Out.{Out}
use Rattle.node_laws.specs.declared.event.Out.TheVariants as out
use Rattle.node_laws.specs.Component.{TcSide, DcSide}
use Rattle.node_laws.specs.Messages.{message_at}
use Rattle.node_laws.specs.Node.{NodeView, StepsTo, ServesTo, LacksRoom, is_replied_to, sends_at, dc_side}
use Rattle.node_laws.specs.Kept.{IsKept, IsSent}
use Rattle.node_laws.specs.Halves.{node_of, also, HasRoom, IsInNode, MayDc}
use Rattle.node_laws.proofs.Invariant.ByNumber.{all_at, last_at}
use Rattle.node_laws.proofs.Invariant.MayAsk.{may_ask}

-- where a step of recovery sends, its phase says so
pub sends_then : (old new : TcView) (request : Request) → RecoverGives old (Ok (step.Sends request)) new
    → sends_at old.phase ≡ true
sends_then old new request h = by old.phase h.1
  where
    by : (p : Phase) → SendsAt old p request new → sends_at p ≡ true
    by phase.Unconnected h = absurd h
    by phase.Connecting h = refl
    by (phase.Redoing next ending) h = refl
    by (phase.Undoing None) h = absurd h
    by (phase.Undoing (Some n)) h = refl
    by phase.Running h = absurd h

-- a transaction's request is sent
pub sends_op : (tc : TcSide) (dc : DcSide) (requests : List Request) (replies : List Reply) (t i : ℕ) (q : Request)
    → tc.up ≡ true → ResendGives tc.tc t (Ok q) → i ≡ length requests + 1
    → StepsTo (node_of tc dc requests replies) (event.Send t) (out.Sent i)
    (node_of tc dc (requests ++ q ∷ []) replies)
sends_op tc dc requests replies t i q up gives is = rw up (q, gives, record { number_is = is; left = refl })

-- where the data component gives a reply, the request is one that has it
pub replies_then : (q : Request) (reply : Reply) (old new : DcView) → Serves old q (Some reply) new
    → is_replied_to q ≡ true
replies_then (asks.LowWater s l) reply old new h = let e : Some reply ≡ None = h.0 in absurd (cc)
replies_then (asks.StableEnd s stable) reply old new h = let e : Some reply ≡ None = h.0 in absurd (cc)
replies_then _ reply old new h = refl

-- what was handed out had room
pub roomy : {A : Type 0} (next : Option ℕ) (message : A) (Room : Type 0) → HasRoom next (Some message)
    → OnSome next Room → Room
roomy None message Room given room = let e : Some message ≡ None = given in absurd (cc)
roomy (Some n) message Room given room = room

-- the data component of a node that keeps what a node keeps may do all but to serve a request that was never sent
pub may_dc : (w : NodeView) (e : Event) → IsKept w → ((i : ℕ) → e ≡ event.Request i → ⊥) → MayDc (dc_side w) e None
may_dc w (event.Request i) kept other = absurd (other i refl)
may_dc w (event.CrashDc frames bytes) kept other = record { node = w; kept = kept; dc_is = refl; brings = refl }
may_dc w event.RestartDc kept other = record { node = w; kept = kept; dc_is = refl; brings = refl }
may_dc w _ kept other = tt

-- what the data component is asked in a node, it may be asked
pub owed : (dc : DcSide) (i : ℕ) (q : Request) → IsInNode dc (event.Request i) (Some q) → MayAsk dc.dc q
owed dc i q at =
    let w = at.node in
    let k = at.kept in
    let Asks : DcSide → Type 0 = λ side. MayAsk side.dc q in
    subst Asks at.dc_is (may_ask w q k (all_at (IsSent w.tc w.dc k.source) w.requests i q k.sent at.brings))

rowless : (reply other : Reply) → has_rows reply ≡ true → has_rows other ≡ false → Some reply ≡ Some other → ⊥
rowless reply other rows none e = let same : reply ≡ other = cc in true≢false (sym rows ∙ ap has_rows same ∙ none)

-- whoever is given rows has changed nothing
reads : (q : Request) (reply : Reply) (old new : DcView) → has_rows reply ≡ true → Serves old q (Some reply) new
    → new ≡ old
reads (asks.Connect s end) reply old new rows h = absurd (rowless reply _ rows refl h.0)
reads (asks.Perform s n stable o) reply old new rows h = absurd (by (captures_at old (key_of o) n) _ _ _ _ h refl refl)
  where
    by : (b : Bool) (one other : Reply) (P Q : Type 0)
        → MatchBool b ((Some reply ≡ Some one) × P) ((Some reply ≡ Some other) × Q) → has_rows one ≡ false
        → has_rows other ≡ false → ⊥
    by true one other P Q h none also = rowless reply one rows none h.0
    by false one other P Q h none also = rowless reply other rows also h.0
reads (asks.Get s n k) reply old new rows h = absurd (rowless reply _ rows refl h.0)
reads (asks.Scan s n lo hi) reply old new rows h = h.1
reads (asks.LowWater s l) reply old new rows h = let e : Some reply ≡ None = h.0 in absurd (cc)
reads (asks.Checkpoint s l) reply old new rows h = absurd (rowless reply _ rows refl h.0)
reads (asks.RedoEnd s) reply old new rows h = absurd (rowless reply _ rows refl h.0)
reads (asks.StableEnd s stable) reply old new rows h = let e : Some reply ≡ None = h.0 in absurd (cc)

-- rows that lack room are refused, and nothing has changed
module _ (tc : TcSide) (old new : DcSide) (requests : List Request) (replies : List Reply) (i : ℕ) (reply : Reply)
    (rows : has_rows reply ≡ true) where
  abbrev from : NodeView
  from = node_of tc old requests replies

  abbrev told : NodeView
  told = node_of tc new requests (replies ++ reply ∷ [])

  abbrev left : NodeView
  left = node_of tc new requests replies

  longer : told.replies ≡ replies → ⊥
  longer same = omega (arith, ap length same, length-append replies (reply ∷ []))

  served : (o : Out) → ServesTo from i o told → ServesTo from i (out.Refused NoMemory) left
  served (out.Replied j) h =
      let e = ap (λ (w : NodeView). w.replies) h.3 in
      let same : Some reply ≡ Some h.0 =
      sym (last_at replies reply) ∙ ap (λ (xs : List Reply). message_at xs (length replies + 1)) e
      ∙ last_at replies h.0 in
      let long : has_rows h.0 ≡ true = (let one : h.0 ≡ reply = cc in ap has_rows one ∙ rows) in
      let same_dc = reads h.1.request h.0 old.dc new.dc long h.1.gives.1 in
      let replied = replies_then h.1.request h.0 old.dc new.dc h.1.gives.1 in
      let up = ap (λ (w : NodeView). w.dc_up) h.3 in
      let Lacks : Option Refusal → Type 0 = λ cause. LacksRoom cause (is_replied_to h.1.request) NoMemory in
      inl (
        inr (record {
          request = h.1.request;
          found = h.1.found;
          refused = subst Lacks (sym h.1.gives.0) (replied, refl);
        }),
        λ k. node_of tc (record { up = up k; dc = same_dc k }) requests replies,
      )
  served out.Noted h = absurd (longer (ap (λ (w : NodeView). w.replies) h.1))
  served (out.Refused r) (inl h) = absurd (longer (ap (λ (w : NodeView). w.replies) h.1))
  served (out.Refused r) (inr h) = absurd (longer (ap (λ (w : NodeView). w.replies) h.1))
  served _ h = absurd h

  pub unroomed : (o : Out) → StepsTo from (event.Request i) o told
      → StepsTo from (event.Request i) (out.Refused NoMemory) left
  unroomed o h = by old.up h
    where
      by : (b : Bool) → MatchBool b (ServesTo from i o told) ((o ≡ out.Refused NotConnected) × (told ≡ from))
          → MatchBool b (ServesTo from i (out.Refused NoMemory) left)
          ((out.Refused NoMemory ≡ out.Refused NotConnected) × (left ≡ from))
      by true h = served o h
      by false h = absurd (longer (ap (λ (w : NodeView). w.replies) h.1))
