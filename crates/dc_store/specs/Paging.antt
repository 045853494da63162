-- What is read of pages, and why it is refused.
use Rattle.std.specs.Prelude.{◌≡◌, ◌⊎◌, ℕ, ◌≤◌, List, Option, Some}
use Rattle.record_key.specs.declared.refusal.Refusal.{Refusal}
use Rattle.record_key.specs.declared.refusal.Refusal.TheVariants.{NoMemory, Device, BadBytes}
use Rattle.stable.specs.PagesState.{Pages}
use Rattle.dc_leaf.specs.Leaf.{LeafView}
use Rattle.dc_store.specs.Devices.{IsPage}
use Rattle.dc_store.specs.Recovering.{AreOwnPages}

-- the bytes are the image of a leaf of this number, whose last change is among so many records
abbrev pub IsOwnPage : List ℕ → ℕ → ℕ → Type 0
IsOwnPage bytes id count = (leaf : LeafView) × IsPage bytes leaf × (leaf.id ≡ id) × (leaf.last ≤ count)

-- the same of a page, if it was written
abbrev pub IsOwnIfAny : Option (List ℕ) → ℕ → ℕ → Type 0
IsOwnIfAny page id count = (bytes : List ℕ) → page ≡ Some bytes → IsOwnPage bytes id count

-- why a page isn't read
abbrev pub RefusesPage : Option (List ℕ) → ℕ → ℕ → Refusal → Type 0
RefusesPage page id count r =
    (r ≡ NoMemory) ⊎ (r ≡ Device) ⊎ ((r ≡ BadBytes 0) × (IsOwnIfAny page id count → ⊥))

-- why pages aren't read
abbrev pub RefusesPages : Pages → ℕ → Refusal → Type 0
RefusesPages pages count r = (r ≡ NoMemory) ⊎ (r ≡ Device) ⊎ ((r ≡ BadBytes 0) × (AreOwnPages pages count → ⊥))
