-- How calls use a device, one after another.
use Rattle.std.proofs.Common.{◌≡◌, ◌≢◌, ℕ, ◌+◌, ◌≤◌, refl, sym, ap, ◌∙◌, subst, arith}
use Rattle.std.specs.Prelude.{IsTrue}
use Rattle.record_key.specs.declared.refusal.Refusal.{Refusal}
use Rattle.record_key.specs.declared.refusal.Refusal.TheVariants.{NoMemory, Device}
use Rattle.stable.specs.Usage.{Usage, is_due, failed, called_often}
use Rattle.framed_log.specs.Refused.{refused_use}
use Rattle.dc_store.specs.Uses.{FailsWhenDue, UsesUpTo, StopsWithin}

-- ---- one call

-- where no device failed nothing is counted
pub unfailed : (u : Usage) (r : Refusal) → r ≢ Device → refused_use u r ≡ u
unfailed u Device beside = absurd (beside refl)
unfailed u r beside = refl

-- ---- one after another

-- so many calls, and then so many more
pub often_more : (n m : ℕ) (u : Usage) → called_often m (called_often n u) ≡ called_often (n + m) u
often_more n m u =
    let same : (u.calls + n) + m ≡ u.calls + (n + m) = omega arith in
    ap (λ (calls : ℕ). record u { calls = calls }) same

-- no call at all
often_none : (u : Usage) → called_often 0 u ≡ u
often_none u =
    let same : u.calls + 0 ≡ u.calls = omega arith in
    ap (λ (calls : ℕ). record u { calls = calls }) same

pub unused_so_far : (most : ℕ) (u : Usage) → UsesUpTo most u u
unused_so_far most u = record { calls = 0; within = omega arith; after = sym (often_none u) }

pub used_all : (n : ℕ) (old new : Usage) → new ≡ called_often n old → UsesUpTo n old new
used_all n old new after = record { calls = n; within = omega arith; after = after }

-- the device failed in its first call
pub fails_at_once : (most : ℕ) (r : Refusal) (old new : Usage) → r ≡ Device → IsTrue (is_due old) → new ≡ failed old
    → StopsWithin most r old new
fails_at_once most r old new is due after =
    let same : old ≡ called_often 0 old = sym (often_none old) in
    record {
      calls = 0;
      within = omega arith;
      due = λ _. subst (λ (u : Usage). IsTrue (is_due u)) same due;
      after = after ∙ ap failed same ∙ ap (refused_use (called_often 0 old)) (sym is);
    }

-- or in the one after so many others
pub fails_after : (n most : ℕ) (r : Refusal) (old mid new : Usage) → r ≡ Device → mid ≡ called_often n old → n ≤ most
    → IsTrue (is_due mid) → new ≡ failed mid → StopsWithin most r old new
fails_after n most r old mid new is before le due after = record {
  calls = n;
  within = le;
  due = λ _. subst (λ (u : Usage). IsTrue (is_due u)) before due;
  after = after ∙ ap failed before ∙ ap (refused_use (called_often n old)) (sym is);
}

-- so many calls went well, and then it was refused for something else
pub stops_beside : (n most : ℕ) (r : Refusal) (old new : Usage) → n ≤ most → r ≢ Device → new ≡ called_often n old
    → StopsWithin most r old new
stops_beside n most r old new le beside after = record {
  calls = n;
  within = le;
  due = λ is. absurd (beside is);
  after = after ∙ sym (unfailed (called_often n old) r beside);
}

-- as for want of memory
pub lacks_memory : (n most : ℕ) (r : Refusal) (old new : Usage) → n ≤ most → r ≡ NoMemory → new ≡ called_often n old
    → StopsWithin most r old new
lacks_memory n most r old new le is after = stops_beside n most r old new le (λ failed. absurd (cc)) after

-- or before it was called at all
pub stops_beside_none : (most : ℕ) (r : Refusal) (u : Usage) → r ≢ Device → StopsWithin most r u u
stops_beside_none most r u beside = record {
  calls = 0;
  within = omega arith;
  due = λ is. absurd (beside is);
  after = sym (unfailed (called_often 0 u) r beside ∙ often_none u);
}

-- after some calls it was refused
pub stops_after : (n m most : ℕ) (r : Refusal) (old mid new : Usage) → mid ≡ called_often n old → n + m ≤ most
    → StopsWithin m r mid new → StopsWithin most r old new
stops_after n m most r old mid new before le h =
    let same : called_often h.calls mid ≡ called_often (n + h.calls) old =
    ap (called_often h.calls) before ∙ often_more n h.calls old in
    record {
      calls = n + h.calls;
      within = omega (arith, le, h.within);
      due = subst (λ (u : Usage). FailsWhenDue u r) same h.due;
      after = h.after ∙ ap (λ (u : Usage). refused_use u r) same;
    }
