-- What lies under the lock of each session.
use Rattle.std.specs.Prelude.{◌≡◌, ◌⊎◌, ℕ, ◌+◌, false, cond, List, [], Option, Some, None, slice_get}
use Rattle.boxcar.specs.Table.{Shelves}
use Rattle.history.specs.ListMachine.{Line}
use Rattle.engine_history.specs.declared.failure.Failure.{Failure}
use Rattle.engine_history.specs.declared.step.Step.{Step}
use Rattle.engine_history.specs.node_laws.specs.declared.event.Event.{Event}
use Rattle.engine_history.specs.node_laws.specs.declared.event.Out.{Out}
use Rattle.engine_history.specs.InFlightCalls.{FailsSince, in_flight_after, in_flight_of, fails}
use Rattle.engine_history.specs.Kept.{calls_of, later_failure}
use Rattle.engine_history.specs.Sessions.{SessionCalls, calls_as, cuts_off, is_pending, line_of, live_after, calls_by, pending}
use Rattle.engine_history.specs.Views.{Sees}
use Rattle.engine_guarded.specs.declared.heard.Heard.{Heard}
use Rattle.engine_guarded.specs.declared.place.Place.{Place}
use Rattle.engine_guarded.specs.Hearing.{as_line, heard_for, is_end}
use Rattle.engine_guarded.specs.Slots.{Shown, seen}

-- ---- what a step is to a place

abbrev pub place_called : Out → Place → Place
place_called o p = record p {
  live = live_after p.live o;
  awaits = is_pending o;
  line = None;
  in_flight = in_flight_of o;
  failed = None;
}

abbrev pub place_worked : Event → Out → Place → Place
place_worked e o p = record p {
  in_flight = in_flight_after p.live p.in_flight e o;
  failed = later_failure p.failed (fails p.live p.in_flight e o);
}

abbrev pub with_heard : Option Heard → Place → Place
with_heard None p = p
with_heard (Some h) p = record p {
  live = cond (is_end h) None p.live;
  awaits = false;
  line = cond p.awaits (Some h) p.line;
}

abbrev pub place_heard : Event → Out → Place → Place
place_heard e o p =
    cond (cuts_off e) (record p { live = None }) (with_heard (heard_for p.live o) (place_worked e o p))

abbrev pub place_after : Step → Place → Place
place_after e p = cond (calls_as e.caller p.number) (place_called e.out p) (place_heard e.event e.out p)

-- ---- what holds of it

-- the line told of a call is what it was, or this one has come
abbrev pub HeardSince : Option Line → Option Line → Option Heard → Type 0
HeardSince was now None = now ≡ was
HeardSince was now (Some h) = (t : ℕ) × (now ≡ Some (as_line t h))

-- what came since there were this line and these failures
pub record CameSince (was : Option Line) (fs : List Failure) (calls : SessionCalls) (p : Place) : Type 0 where
  pub line : HeardSince was (line_of calls.latest) p.line
  pub failed : FailsSince fs calls.failures p.failed

-- its session has made a call that it hasn't seen to its end
abbrev pub IsAmid : List Step → ℕ → Place → Type 0
IsAmid es s p = (p.far_end.number ≡ 0) × CameSince None [] (calls_by s es) p

-- its session has seen all of its calls, up to this entry
abbrev pub IsResting : List Step → ℕ → Place → Type 0
IsResting es s p =
    (p.far_end.number ≡ p.last.index + 1) × Sees (calls_of s) (seen p.last) es
    × CameSince (line_of (calls_by s (seen p.last)).latest) (calls_by s (seen p.last)).failures (calls_by s es) p

pub record PlaceKept (entries : Shelves) (names : ℕ → ℕ) (es : List Step) (s : ℕ) (p : Place) : Type 0 where
  pub number : p.number ≡ s
  pub name : p.far_end.name ≡ names (s + 2)
  pub shown : Shown entries p.last
  pub live : p.live ≡ (calls_by s es).live
  pub awaits : p.awaits ≡ pending (calls_by s es).latest
  pub in_flight : p.in_flight ≡ (calls_by s es).in_flight
  pub stands : IsAmid es s p ⊎ IsResting es s p

abbrev pub PlacesKept : Shelves → (ℕ → ℕ) → List Step → List Place → Type 0
PlacesKept entries names es places = (s : ℕ) (p : Place) → slice_get places s ≡ Some p → PlaceKept entries names es s p
