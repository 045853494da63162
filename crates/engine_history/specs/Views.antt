-- How far the history was seen.
use Rattle.std.specs.Prelude.{◌≡◌, ℕ, Bool, false, List, ◌++◌}
use Rattle.std.specs.List.{AllByRecursion}
use Rattle.boxcar.specs.Table.{Shelves}
use Rattle.engine_agreement.specs.Agreed.{Agreed}
use Rattle.engine_history.specs.declared.step.Step.{Step}
use Rattle.engine_history.specs.Slots.{Slot, seen, spot, IsShown}
use Rattle.std.specs.Prelude.{Option}

-- who it is, and the steps up to the last entry that it has seen
pub record View : Type 0 where
  pub name : ℕ
  pub steps : List Step

abbrev pub view_of : Agreed → Option Slot → View
view_of agreement last = record { name = agreement.name; steps = seen last }

-- the agreement's number is the place of the last entry seen
pub record IsViewed (entries : Shelves) (agreement : Agreed) (last : Option Slot) : Type 0 where
  pub shown : IsShown entries last
  pub number : agreement.number ≡ spot last

-- what was seen is a beginning, and none of this kind came since
pub record Sees (mine : Step → Bool) (before now : List Step) : Type 0 where
  pub since : List Step
  pub all : now ≡ before ++ since
  pub none : AllByRecursion (λ e. mine e ≡ false) since
