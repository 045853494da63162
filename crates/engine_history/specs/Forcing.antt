-- What a force does: it makes the log stable, tells of that, and announces what is answered.
use Rattle.std.specs.Prelude.{◌≡◌, ℕ, ◌≤◌, Bool, true, false, Option, Some, None}
use Rattle.boxcar.specs.Table.{Shelves}
use Rattle.node_sides.specs.node_laws.specs.declared.event.Event.TheVariants as event
use Rattle.node_sides.specs.tc_core.specs.LowWater.{IsGreatestAnnounced}
use Rattle.engine_history.specs.Adding.{AddsEntry}
use Rattle.engine_history.specs.Latched.{TcFound}
use Rattle.engine_history.specs.Marking.{announced, tells_commit}
use Rattle.engine_history.specs.Slots.{Slot, Shown}
use Rattle.engine_history.specs.Steps.{is_tc, Start, GivesTc}

-- the greatest number that a component that runs may announce was announced
abbrev pub IsAnnounced : TcFound → Type 0
IsAnnounced d =
    d.state.side.up ≡ true → (l : ℕ) × IsGreatestAnnounced d.state.side.tc l × (l ≤ announced d.steps)

-- the greatest number that may be announced was, by this entry
pub record AnnouncedBy (old : TcFound) (p : Slot) (new : TcFound) : Type 0 where
  pub added : AddsEntry is_tc old.steps p new.steps
  pub low : ℕ
  pub event_is : p.value.step.value.event ≡ event.LowWater low
  pub greatest : IsGreatestAnnounced old.state.side.tc low

-- the same, if there was one to be announced
abbrev pub Announces : TcFound → Option Slot → TcFound → Type 0
Announces old None new = (new.steps ≡ old.steps) × (new.state ≡ old.state) × IsAnnounced old
Announces old (Some p) new = AnnouncedBy old p new

-- this entry told how much is stable; then what is answered was announced
pub record TellsBy (start : Start) (old : TcFound) (p : Slot) (low : Option Slot) (new : TcFound) : Type 0 where
  pub event_is : p.value.step.value.event ≡ event.Tell
  pub mid : TcFound
  pub added : AddsEntry is_tc old.steps p mid.steps
  pub gives : GivesTc start mid.steps mid.state
  pub announces : Announces mid low new

-- the same where a commit was told
abbrev pub Tells : Start → Bool → TcFound → Option Slot → Option Slot → TcFound → Type 0
Tells start false old tell low new = (tell ≡ None) × (low ≡ None) × (new ≡ old)
Tells start true old None low new = ⊥
Tells start true old (Some p) low new = TellsBy start old p low new

-- the log was made stable; what was to be told of that, and what was to be announced then, was so by these entries
pub record Forces (start : Start) (entries : Shelves) (old : TcFound) (tell low : Option Slot) (new : TcFound)
    : Type 0 where
  pub entry : Slot
  pub shown : Shown entries entry
  pub event_is : entry.value.step.value.event ≡ event.Force
  pub mid : TcFound
  pub added : AddsEntry is_tc old.steps entry mid.steps
  pub gives : GivesTc start mid.steps mid.state
  pub tells : Tells start (tells_commit entry.value.step.value.out) mid tell low new
