-- What tokens of entries show.
use Rattle.std.specs.Prelude.{◌<◌, ◌^◌, ℕ, ◌+◌, Bool, List, [], ◌∷◌, ◌++◌, Option, Some, None, map, length, slice_get, ◌-◌, ⊤}
use Rattle.std.specs.Option.{is_some}
use Rattle.boxcar.specs.Table.{Where, Shelves, Shows}
use Rattle.engine_history.specs.declared.step.Step.{Step}
use Rattle.engine_history.specs.declared.entry.Entry.{Entry}

abbrev pub Slot : Type 0
Slot = Where Entry

abbrev pub step_at : Slot → Step
step_at p = p.value.step.value

abbrev pub steps : List Slot → List Step
steps ps = map step_at ps

abbrev pub asks : Slot → Bool
asks p = is_some p.value.step.value.sent

abbrev pub gives : Slot → Bool
gives p = is_some p.value.step.value.given

-- all the steps before an entry, and its own
abbrev pub through : Entry → List Step
through e = e.before.steps ++ e.step.value ∷ []

-- the steps up to the last entry that was seen
abbrev pub seen : Option Slot → List Step
seen None = []
seen (Some p) = through p.value

-- 0, or one more than the index
abbrev pub spot : Option Slot → ℕ
spot None = 0
spot (Some p) = p.index + 1

-- the entries show it, at an index after which there is another
pub record Shown (entries : Shelves) (p : Slot) : Type 0 where
  pub shows : Shows entries p
  pub counted : p.index + 1 < 2 ^ 64

abbrev pub IsShown : Shelves → Option Slot → Type 0
IsShown entries None = ⊤
IsShown entries (Some p) = Shown entries p

abbrev pub last_of : {A : Type 0} → List A → Option A
last_of xs = slice_get xs (length xs - 1)
