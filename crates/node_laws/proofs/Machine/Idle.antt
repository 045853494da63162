-- What a call that isn't refused has found of its transaction.
use Rattle.std.proofs.Common.{◌≡◌, ℕ, Bool, true, false, [], ◌∷◌, Option, Some, None, is_some, refl, sym, ap, ◌∙◌, true≢false}
use Rattle.std.specs.Prelude.{◌||◌, not}
use Rattle.record_key.specs.declared.refusal.Refusal.{Refusal}
use Rattle.record_key.specs.declared.refusal.Refusal.TheVariants.{NotConnected, Redoing, NotOpen, RollingBack, Unanswered}
use Rattle.record_key.specs.FirstCause.{first_of, or_else}
use Rattle.tc_core.specs.declared.open_txn.OpenTxn.{OpenTxn}
use Rattle.tc_core.specs.declared.open_txn.Read.{Read}
use Rattle.tc_core.specs.declared.open_txn.Rollback.{Rollback}
use Rattle.tc_core.specs.OpenTxns.{find}
use Rattle.tc_core.specs.TcView.{TcView, is_unconnected, is_running, is_serving, is_rolling, is_waiting}
use Rattle.tc_core.specs.declared.phase.Phase.{Phase}
use Rattle.tc_core.specs.declared.phase.Phase.TheVariants as phase
use Rattle.tc_core.specs.Causes.{running_refusal, serving_refusal, idle_refusal, open_refusal, answered_refusal}
use Rattle.tc_core.specs.Calls.{IsAt}
use Rattle.tc_core.proofs.Refused.{at_number}

-- it neither rolls back nor waits
pub record IsIdleTxn (o : OpenTxn) : Type 0 where
  pub rolling : o.rolling ≡ None
  pub waiting : o.waiting ≡ None
  pub reading : o.reading ≡ None

-- two causes, one after the other
pub both_none : (a b : Option Refusal) → or_else a b ≡ None → (a ≡ None) × (b ≡ None)
both_none None b h = (refl, h)
both_none (Some r) b h = absurd (cc)

pub one_false : (b : Bool) (r : Refusal) → first_of ((b, r) ∷ []) ≡ None → b ≡ false
one_false true r h = absurd (cc)
one_false false r h = refl

pub two_false : (b c : Bool) (r s : Refusal) → first_of ((b, r) ∷ (c, s) ∷ []) ≡ None → (b ≡ false) × (c ≡ false)
two_false true c r s h = absurd (cc)
two_false false true r s h = absurd (cc)
two_false false false r s h = (refl, refl)

pub none_rolls : (x : Option Rollback) → is_some x ≡ false → x ≡ None
none_rolls None h = refl
none_rolls (Some r) h = absurd (true≢false h)

pub none_waits : (w : Option ℕ) (r : Option Read) → (is_some w || is_some r) ≡ false → (w ≡ None) × (r ≡ None)
none_waits None None h = (refl, refl)
none_waits None (Some r) h = absurd (true≢false h)
none_waits (Some n) r h = absurd (true≢false h)

pub idle_found : (w : TcView) (t : ℕ) (o : OpenTxn) → IsAt w t o → idle_refusal w t ≡ None → IsIdleTxn o
idle_found w t o at allowed =
    let found = at_number w t o at in
    let both = two_false (is_rolling (find t w.open_txns)) (is_waiting (find t w.open_txns)) RollingBack Unanswered
    (both_none (open_refusal w t)
    (first_of ((is_rolling (find t w.open_txns), RollingBack) ∷ (is_waiting (find t w.open_txns), Unanswered) ∷ []))
    allowed).1 in
    let none = none_waits o.waiting o.reading (sym (ap is_waiting found) ∙ both.1) in
    record { rolling = none_rolls o.rolling (sym (ap is_rolling found) ∙ both.0); waiting = none.0; reading = none.1 }

pub not_not : (b : Bool) → not b ≡ false → b ≡ true
not_not true h = refl
not_not false h = absurd (true≢false h)

-- and found it
pub found_idle : (w : TcView) (t : ℕ) → idle_refusal w t ≡ None → is_some (find t w.open_txns) ≡ true
found_idle w t h =
    let opened = (both_none (open_refusal w t)
    (first_of ((is_rolling (find t w.open_txns), RollingBack) ∷ (is_waiting (find t w.open_txns), Unanswered) ∷ []))
    h).0 in
    not_not (is_some (find t w.open_txns))
    (one_false (not (is_some (find t w.open_txns))) NotOpen
    (both_none (serving_refusal w) (first_of ((not (is_some (find t w.open_txns)), NotOpen) ∷ [])) opened).1)

pub waits_for_none : (w : TcView) (t : ℕ) (o : OpenTxn) → IsAt w t o → answered_refusal w t ≡ None
    → (o.waiting ≡ None) × (o.reading ≡ None)
waits_for_none w t o at allowed =
    none_waits o.waiting o.reading
    (sym (ap is_waiting (at_number w t o at))
    ∙ one_false (is_waiting (find t w.open_txns)) Unanswered
    (both_none (open_refusal w t) (first_of ((is_waiting (find t w.open_txns), Unanswered) ∷ [])) allowed).1)

-- the component runs where it tells the other what to forget
pub serves_clients : (w : TcView) → running_refusal w ≡ None → w.phase ≡ phase.Running
serves_clients w h = by w.phase h
  where
    by : (p : Phase) → first_of ((is_unconnected p, NotConnected) ∷ (not (is_running p), Redoing) ∷ []) ≡ None
        → p ≡ phase.Running
    by phase.Unconnected h = absurd (cc)
    by phase.Connecting h = absurd (cc)
    by (phase.Redoing next ending) h = absurd (cc)
    by (phase.Undoing waiting) h = absurd (cc)
    by phase.Running h = refl

-- clients are served where a call of one is let
pub serves_serving : (w : TcView) → serving_refusal w ≡ None → is_serving w.phase ≡ true
serves_serving w h = not_not (is_serving w.phase)
    (two_false (is_unconnected w.phase) (not (is_serving w.phase)) NotConnected Redoing h).1

pub serves_open : (w : TcView) (t : ℕ) → open_refusal w t ≡ None → is_serving w.phase ≡ true
serves_open w t h = serves_serving w
    (both_none (serving_refusal w) (first_of ((not (is_some (find t w.open_txns)), NotOpen) ∷ [])) h).0

pub serves_idle : (w : TcView) (t : ℕ) → idle_refusal w t ≡ None → is_serving w.phase ≡ true
serves_idle w t h =
    serves_open w t
    (both_none (open_refusal w t)
    (first_of ((is_rolling (find t w.open_txns), RollingBack) ∷ (is_waiting (find t w.open_txns), Unanswered) ∷ []))
    h).0

pub serves_undo : (w : TcView) (t : ℕ) → answered_refusal w t ≡ None → is_serving w.phase ≡ true
serves_undo w t h = serves_open w t
    (both_none (open_refusal w t) (first_of ((is_waiting (find t w.open_txns), Unanswered) ∷ [])) h).0
