-- Why a call is refused, and what it leaves then.
use Rattle.std.specs.Prelude.{◌≡◌, ◌⊎◌, Bool, true, IsTrue, Option, Some, None}
use Rattle.record_key.specs.declared.refusal.Refusal.{Refusal}
use Rattle.record_key.specs.declared.refusal.Refusal.TheVariants.{NoMemory, Device}
use Rattle.stable.specs.Usage.{is_due}
use Rattle.tc_core.specs.TcView.{TcView, failed}

-- for its first cause; where there is none for want of memory, if it takes any, and all is as before; or since the
-- log's device failed in a call that was due to, if it calls that, and then nothing but how it was used is another
abbrev pub Refuses : Option Refusal → Bool → Bool → TcView → Refusal → TcView → Type 0
Refuses (Some cause) memory device old r new = (r ≡ cause) × (new ≡ old)
Refuses None memory device old r new =
    ((memory ≡ true) × (r ≡ NoMemory) × (new ≡ old)) ⊎ ((device ≡ true) × (r ≡ Device) × (new ≡ failed old) × IsTrue (is_due old.usage))
