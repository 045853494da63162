-- What the entries are witness to.
use Rattle.std.specs.Prelude.{◌≡◌}
use Rattle.boxcar.specs.Table.{Shelves}
use Rattle.engine_answers.specs.node_laws.specs.declared.event.Event.{Event}
use Rattle.engine_answers.specs.engine_history.specs.Slots.{Slot, Shown}

-- there is an entry of this event
pub record IsEntered (entries : Shelves) (e : Event) : Type 0 where
  pub entry : Slot
  pub shown : Shown entries entry
  pub event_is : entry.value.step.value.event ≡ e
