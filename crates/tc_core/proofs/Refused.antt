-- What is left where the log refuses a record.
use Rattle.std.proofs.Common.{◌≡◌, ℕ, IsTrue, Bool, true, false, List, Option, Some, None, refl, ap, ◌∙◌, subst, inl, inr}
use Rattle.record_key.specs.declared.refusal.Refusal.{Refusal}
use Rattle.record_key.specs.declared.refusal.Refusal.TheVariants.{Device}
use Rattle.tc_core.specs.declared.open_txn.OpenTxn.{OpenTxn}
use Rattle.tc_core.specs.declared.change.Change.{Change}
use Rattle.tc_core.specs.Changed.{changed, happens_to, happens}
use Rattle.tc_core.specs.OpenTxns.{find, replace}
use Rattle.stable.specs.Usage.{is_due, failed}
use Rattle.tc_log.specs.LogView.{LogView, spent_refusal, after_refusal}
use Rattle.record_key.specs.FirstCause.{MayRefuse}
use Rattle.tc_core.specs.Locking.{spent_of}
use Rattle.tc_core.specs.TcView.{TcView}
use Rattle.tc_core.specs.Refusing.{Refuses}
use Rattle.tc_core.specs.Calls.{IsAt}
use Rattle.tc_core.specs.Kept.{IsTc}
use Rattle.tc_core.proofs.KeepsTc.{keeps_used}

-- the device fails only where it is due
abbrev pub IsDueAs : TcView → Refusal → Type 0
IsDueAs w r = r ≡ Device → IsTrue (is_due w.usage)

-- the log that is seen, and another in its place
abbrev pub log_of : TcView → LogView
log_of w = record { records = w.log; stable = w.stable; usage = w.usage }

abbrev pub with_log : TcView → LogView → TcView
with_log w l = record w { log = l.records; stable = l.stable; usage = l.usage }

pub keeps_refused : (w : TcView) (r : Refusal) (l : LogView) → IsTc w → l ≡ after_refusal (log_of w) r
    → IsTc (with_log w l)
keeps_refused w Device l k e = rw e (keeps_used w (failed w.usage) k)
keeps_refused w _ l k e = rw e k

pub refuses : (w : TcView) (spent : Bool) (r : Refusal) (l : LogView) → MayRefuse (spent_of spent) r
    → l ≡ after_refusal (log_of w) r → IsDueAs w r → Refuses (spent_of spent) true true w r (with_log w l)
refuses w true r l h e due = (h, rw (e, h) refl)
refuses w false r l h e due = elim h [
  | inl none ↦ inl (refl, none, rw (e, none) refl)
  | inr device ↦ inr (refl, device, rw (e, device) refl, due device)
]

pub refuses_unspent : (w : TcView) → spent_refusal w.log ≡ None → (r : Refusal) (l : LogView)
    → MayRefuse (spent_refusal w.log) r → l ≡ after_refusal (log_of w) r → IsDueAs w r
    → Refuses None true true w r (with_log w l)
refuses_unspent w unspent r l h e due = let P : Option Refusal → Type 0 = λ x. MayRefuse x r in
    refuses w false r l (subst P unspent h) e due

-- the open transaction of a number, and what happens to it
pub at_number : (w : TcView) (t : ℕ) (o : OpenTxn) → IsAt w t o → find t w.open_txns ≡ Some o
at_number w t o at = let P : ℕ → Type 0 = λ n. find n w.open_txns ≡ Some o in subst P at.number at.is

pub happened : (w : TcView) (t : ℕ) (o : OpenTxn) (what : Change) (new : List OpenTxn) → IsAt w t o
    → new ≡ happens t what w.open_txns → new ≡ replace (changed what o) w.open_txns
happened w t o what new at h = h ∙ ap (λ x. happens_to x what w.open_txns) (at_number w t o at)
