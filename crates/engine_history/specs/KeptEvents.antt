-- An event in little room.
use Rattle.std.specs.Prelude.{◌≡◌, Bool, true, false, ⊤}
use Rattle.node_sides.specs.node_laws.specs.declared.event.Event.{Event}
use Rattle.node_sides.specs.node_laws.specs.declared.event.Event.TheVariants as event
use Rattle.engine_history.specs.declared.kept_event.Kept.{Kept}
use Rattle.engine_history.specs.declared.kept_event.Kept.TheVariants as kept

-- the event that is kept so
abbrev pub kept_event : Kept → Event
kept_event kept.Begin = event.Begin
kept_event (kept.Commit t) = event.Commit t
kept_event kept.Force = event.Force
kept_event kept.Tell = event.Tell
kept_event (kept.LowWater l) = event.LowWater l
kept_event (kept.Send t) = event.Send t
kept_event (kept.Undo t) = event.Undo t
kept_event kept.Tend = event.Tend
kept_event (kept.Request i) = event.Request i
kept_event (kept.Reply j) = event.Reply j
kept_event (kept.Other e) = e.value

-- it is told by its kind and one number at most
abbrev pub is_brief_event : Event → Bool
is_brief_event event.Begin = true
is_brief_event (event.Commit t) = true
is_brief_event event.Force = true
is_brief_event event.Tell = true
is_brief_event (event.LowWater l) = true
is_brief_event (event.Send t) = true
is_brief_event (event.Undo t) = true
is_brief_event event.Tend = true
is_brief_event (event.Request i) = true
is_brief_event (event.Reply j) = true
is_brief_event _ = false

-- no box holds what is brief
abbrev pub BoxesOtherEvents : Kept → Type 0
BoxesOtherEvents (kept.Other e) = is_brief_event e.value ≡ false
BoxesOtherEvents _ = ⊤
