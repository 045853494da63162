-- Which refusal a call gives: the first whose cause holds; where none does, want of memory or a failed device.
use Rattle.std.specs.Prelude.{◌≡◌, ◌⊎◌, Bool, List, [], ◌∷◌, Option, Some, None, if◌then◌else◌}
use Rattle.record_key.specs.declared.refusal.Refusal.{Refusal}
use Rattle.record_key.specs.declared.refusal.Refusal.TheVariants.{NoMemory, Device}

abbrev pub first_of : List (Bool × Refusal) → Option Refusal
first_of [] = None
first_of (cause ∷ causes) = if cause.0 then Some cause.1 else first_of causes

-- these causes where none of those holds
abbrev pub or_else : Option Refusal → Option Refusal → Option Refusal
or_else (Some r) later = Some r
or_else None later = later

abbrev pub RefusesAs : Option Refusal → Refusal → Type 0
RefusesAs (Some r) given = given ≡ r
RefusesAs None given = given ≡ NoMemory

-- the same of a call that uses a device
abbrev pub MayRefuse : Option Refusal → Refusal → Type 0
MayRefuse (Some r) given = given ≡ r
MayRefuse None given = (given ≡ NoMemory) ⊎ (given ≡ Device)
