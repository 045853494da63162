-- Where recovery sends an operation, and where it sends none.
use Rattle.std.proofs.Common.{◌≡◌, ℕ, Bool, false, Option, Some, None, refl, sym, subst}
use Rattle.record_key.specs.declared.op.Op.{Op}
use Rattle.codec.specs.declared.request.Request.TheVariants as asks
use Rattle.history.specs.Log.{HasRequest}
use Rattle.tc_restart.specs.Losers.{IsLeast}
use Rattle.tc_restart.specs.Redo.{Asks}
use Rattle.tc_core.specs.declared.phase.Phase.{Phase}
use Rattle.tc_core.specs.declared.phase.Phase.TheVariants as phase
use Rattle.tc_core.specs.Recovery.{Redoes, SendsAt, SendsOp, redo_request, redoing}
use Rattle.tc_core.specs.TcView.{TcView}
use Rattle.tc_core.specs.Undo.{FindsRequest}
use Rattle.tc_core.proofs.Asking.{has_request, none_before}

pub redo_sends : (w : TcView) (next : ℕ) (ending : Bool) (n : ℕ) → w.phase ≡ phase.Redoing next ending
    → IsLeast (Asks w.log next w.session) n → SendsOp w n (redoing w n false)
redo_sends w next ending n at found =
    let has : HasRequest w.log n = has_request w.log next w.session n found.is in
    let does : Redoes w next (asks.Perform w.session n w.stable has.op) (redoing w n false) = record {
      found = Some (n, has.op);
      finds = (found.is.from_there, found.is.up_to, has.requested, none_before w.log next w.session n found);
      request_is = refl;
      left = refl;
    } in
    let sends = subst (λ (p : Phase). SendsAt w p (asks.Perform w.session n w.stable has.op) (redoing w n false)) (sym at)
    does in
    record { op = has.op; requests = has.requested; gives = (rw at refl, sends) }

pub undo_sends : (w : TcView) (n : ℕ) → w.phase ≡ phase.Undoing (Some n) → HasRequest w.log n → SendsOp w n w
undo_sends w n at has = record {
  op = has.op;
  requests = has.requested;
  gives = rw at
      (refl, record { op = has.op; requests = has.requested; request_is = refl; unchanged = refl });
}

-- what redo sends is an operation, if it is no end
pub redoes_none : (w : TcView) (next n : ℕ) (op : Op) (new : TcView)
    → ((m : ℕ) → Asks w.log next w.session m → ⊥)
    → Redoes w next (asks.Perform w.session n w.stable op) new → ⊥
redoes_none w next n op new none does = by does.found does.finds does.request_is
  where
    by : (found : Option (ℕ × Op)) → FindsRequest w.log next w.session found
        → asks.Perform w.session n w.stable op ≡ redo_request w found → ⊥
    by None finds e = absurd (cc (e))
    by (Some x) finds e =
        none x.0 (record { from_there = finds.0; up_to = finds.1; asks = rw (finds.2) refl })

pub sends_none : (w : TcView) (next : ℕ) (ending : Bool) → w.phase ≡ phase.Redoing next ending
    → ((m : ℕ) → Asks w.log next w.session m → ⊥) → (n : ℕ) (new : TcView) → SendsOp w n new → ⊥
sends_none w next ending at none n new h =
    redoes_none w next n h.op new none
    (subst (λ (p : Phase). SendsAt w p (asks.Perform w.session n w.stable h.op) new) at h.gives.1)
