-- Why the components of a node can't be brought up.
use Rattle.std.specs.Prelude.{◌≡◌, ◌⊎◌}
use Rattle.record_key.specs.declared.refusal.Refusal.{Refusal}
use Rattle.record_key.specs.declared.refusal.Refusal.TheVariants.{NoMemory, Device, NumbersSpent}

-- the components can't be brought up now
abbrev pub IsOutage : Refusal → Type 0
IsOutage r = (r ≡ NoMemory) ⊎ ((r ≡ Device) ⊎ (r ≡ NumbersSpent))
