-- Open transactions in slots.
use Rattle.std.specs.Prelude.{◌≡◌, ◌≢◌, ℕ, ◌<◌, List, [], ◌∷◌, ◌++◌, length, Option, Some, None}
use Rattle.std.specs.List.{AllByRecursion}
use Rattle.slab.specs.Slab.{Slab, get, slab_len}
use Rattle.tc_core.specs.declared.open_txn.OpenTxn.{OpenTxn}

abbrev pub listed : Option OpenTxn → List OpenTxn
listed None = []
listed (Some o) = o ∷ []

-- by rising numbers the slots; the transactions in them, the newest first
abbrev pub in_slots : Slab OpenTxn → List (ℕ × ℕ) → List OpenTxn
in_slots slab [] = []
in_slots slab (e ∷ es) = in_slots slab es ++ listed (get slab e.1)

-- a number's slot holds its transaction; those after it have greater numbers and other slots
pub record IsSlot (slab : Slab OpenTxn) (e : ℕ × ℕ) (after : List (ℕ × ℕ)) : Type 0 where
  pub open_txn : OpenTxn
  pub held : get slab e.1 ≡ Some open_txn
  pub number : open_txn.txn ≡ e.0
  pub below : AllByRecursion (λ (d : ℕ × ℕ). e.0 < d.0) after
  pub apart : AllByRecursion (λ (d : ℕ × ℕ). d.1 ≢ e.1) after

abbrev pub AreSlots : Slab OpenTxn → List (ℕ × ℕ) → Type 0
AreSlots slab [] = Unit {0}
AreSlots slab (e ∷ es) = IsSlot slab e es × AreSlots slab es

-- the slab has a value for each slot and no other, so that none is left behind
pub record AreAllSlots (slab : Slab OpenTxn) (es : List (ℕ × ℕ)) : Type 0 where
  pub each : AreSlots slab es
  pub as_many : slab_len slab ≡ length es
