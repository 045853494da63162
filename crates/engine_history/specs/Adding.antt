-- What a call of a latched component adds to what the component did.
use Rattle.std.specs.Prelude.{◌≡◌, ℕ, Bool, List, Some}
use Rattle.node_sides.specs.node_laws.specs.Messages.{message_at}
use Rattle.engine_history.specs.declared.step.Step.{Step}
use Rattle.engine_history.specs.Slots.{Slot, through}
use Rattle.engine_history.specs.Views.{Sees}

-- one entry more: of these steps none is between what was seen and the entry, and what is seen then ends with it
pub record AddsEntry (mine : Step → Bool) (old : List Step) (p : Slot) (new : List Step) : Type 0 where
  pub sees : Sees mine old p.value.before.steps
  pub all : new ≡ through p.value

-- a message of this number was sent before the entry
abbrev pub WasSent : {A : Type 0} → (List Step → List A) → ℕ → Slot → Type 0
WasSent {A} messages number p = (m : A) × (message_at (messages p.value.before.steps) number ≡ Some m)
