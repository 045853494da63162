-- What tokens of entries show.
use Rattle.std.specs.Prelude.{◌≡◌, ◌<◌, ◌^◌, ◌+◌, List}
use Rattle.boxcar.specs.Table.{Where, Shelves, Shows}
use Rattle.engine_history.specs.declared.step.Step.{Step}
use Rattle.engine_guarded.specs.declared.entry.Entry.{Entry}

abbrev pub Slot : Type 0
Slot = Where Entry

-- the steps up to the end of an entry's call
abbrev pub seen : Slot → List Step
seen p = p.value.past.items

-- the entries show it, at an index after which there is another
pub record Shown (entries : Shelves) (p : Slot) : Type 0 where
  pub shows : Shows entries p
  pub counted : p.index + 1 < 2 ^ 64

-- there is an entry up to which these steps are
pub record IsShownBy (entries : Shelves) (steps : List Step) : Type 0 where
  pub entry : Slot
  pub shown : Shown entries entry
  pub steps_are : seen entry ≡ steps
