-- An operation that recovery sends, as the bytes of the log.
use Rattle.std.proofs.Common.{◌≡◌, ◌∙◌, ℕ, ◌+◌, true, List, ◌∷◌, [], ◌++◌, length, Some, None, sym, ap, subst}
use Rattle.std.specs.Prelude.{Ok}
use Rattle.record_key.specs.declared.op.Op.{Op}
use Rattle.history.specs.declared.record.Record.{Record}
use Rattle.history.specs.Log.{Requests}
use Rattle.codec.specs.declared.request.Request.{Request}
use Rattle.codec.specs.declared.request.Request.TheVariants as asks
use Rattle.codec.specs.declared.reply.Reply.{Reply}
use Rattle.codec.specs.Requests.{IsRequest}
use Rattle.tc_log.specs.Spelled.{IsAskedBy}
use Rattle.tc_core.specs.declared.phase.Phase.{Phase}
use Rattle.tc_core.specs.declared.phase.Phase.TheVariants as phase
use Rattle.tc_core.specs.declared.told.RecoverStep.TheVariants as step
use Rattle.tc_core.specs.Kept.{IsTc}
use Rattle.tc_core.specs.Recovery.{SendsAt, SendsOp, RecoverGives}
use Rattle.tc_core.specs.TcView.{TcView}
use Rattle.node_laws.specs.declared.event.Event.TheVariants as event
use Rattle.node_laws.specs.declared.event.Out.TheVariants as out
use Rattle.node_laws.specs.Component.{TcSide, DcSide}
use Rattle.node_laws.specs.Halves.{node_of}
use Rattle.node_laws.specs.Node.{StepsTo}
use Rattle.node_laws.proofs.Invariant.Spellable.{recover_numbers}

-- nothing changes of what the request is made of
pub record SendsSame (old new : TcView) : Type 0 where
  pub log : new.log ≡ old.log
  pub session : new.session ≡ old.session
  pub stable : new.stable ≡ old.stable

sends_same : (old new : TcView) (n : ℕ) → SendsOp old n new → SendsSame old new
sends_same old new n h = by old.phase h.gives.1
  where
    by : (p : Phase) → SendsAt old p (asks.Perform old.session n old.stable h.op) new → SendsSame old new
    by phase.Unconnected h = absurd h
    by phase.Connecting h = absurd (cc (h.0))
    by (phase.Redoing next ending) h = record {
      log = ap (λ (w : TcView). w.log) h.left;
      session = ap (λ (w : TcView). w.session) h.left;
      stable = ap (λ (w : TcView). w.stable) h.left;
    }
    by (phase.Undoing None) h = absurd h
    by (phase.Undoing (Some m)) h = record {
      log = ap (λ (w : TcView). w.log) h.unchanged;
      session = ap (λ (w : TcView). w.session) h.unchanged;
      stable = ap (λ (w : TcView). w.stable) h.unchanged;
    }
    by phase.Running h = absurd h

-- what is sent, by what stands then
abbrev pub sent_op : TcView → ℕ → Op → Request
sent_op w n o = asks.Perform w.session n w.stable o

-- its record stands there still
pub still_asks : (old new : TcView) (n : ℕ) → (h : SendsOp old n new) → Requests new.log n h.op
still_asks old new n h =
    subst (λ (log : List Record). Requests log n h.op) (sym (sends_same old new n h).log) h.requests

-- it is what these bytes spell
module _ (old new : TcView) (n : ℕ) (bytes : List ℕ) (h : SendsOp old n new) (asked : IsAskedBy new.log n bytes) where
  same : {o p : Op} → Some o ≡ Some p → o ≡ p
  same e = cc

  pub gives_spelled : RecoverGives old (Ok (step.Sends (sent_op new n asked.op))) new
  gives_spelled =
      let at = sends_same old new n h in
      let op_is : h.op ≡ asked.op = same (sym (still_asks old new n h) ∙ asked.asked) in
      let is : sent_op old n h.op ≡ sent_op new n asked.op =
      λ i. asks.Perform (sym at.session i) n (sym at.stable i) (op_is i) in
      subst (λ (q : Request). RecoverGives old (Ok (step.Sends q)) new) is h.gives

  pub spelled_request : IsTc old → IsRequest (sent_op new n asked.op)
  spelled_request kept =
      let numbers = recover_numbers old new (sent_op new n asked.op) kept gives_spelled in
      (numbers.0, (numbers.1.0, (numbers.1.1, asked.fits)))

-- a step of recovery sends a request
pub sends_recovery : (old new : TcSide) (dc : DcSide) (requests : List Request) (replies : List Reply) (i : ℕ)
    (q : Request) → old.up ≡ true → new.up ≡ true → RecoverGives old.tc (Ok (step.Sends q)) new.tc
    → i ≡ length requests + 1
    → StepsTo (node_of old dc requests replies) event.Recover (out.Sent i)
    (node_of new dc (requests ++ q ∷ []) replies)
sends_recovery old new dc requests replies i q up still gives is =
    rw up (
      q,
      gives,
      record {
        number_is = is;
        left = λ k. node_of (record { up = still k; tc = new.tc }) dc (requests ++ q ∷ []) replies;
      },
    )
