-- That no message is on its way for a session's call.
use Rattle.std.specs.Prelude.{◌≡◌, ◌≤◌, ℕ, Bool, true, false, cond, List, Option}
use Rattle.std.specs.Option.{is_some}
use Rattle.engine_history.specs.declared.in_flight.InFlight.{InFlight}
use Rattle.engine_history.specs.declared.step.Step.{Step}
use Rattle.engine_history.specs.Sessions.{SessionCalls, calls_by, pending}
use Rattle.engine_guarded.specs.declared.place.Place.{Place}

abbrev pub has_message : InFlight → Bool
has_message in_flight = cond (is_some in_flight.request) true (is_some in_flight.reply)

-- a transaction is alive, its latest call is still to be told of, and a message was sent for that
abbrev pub waits_with : Option ℕ → Bool → InFlight → Bool
waits_with live awaits in_flight = cond (is_some live) (cond awaits (has_message in_flight) false) false

abbrev pub waits : Place → Bool
waits p = waits_with p.live p.awaits p.in_flight

abbrev pub calls_wait : SessionCalls → Bool
calls_wait calls = waits_with calls.live (pending calls.latest) calls.in_flight

-- none of the sessions up to this number waits for a message
abbrev pub AreQuiet : ℕ → List Step → Type 0
AreQuiet n es = (s : ℕ) → s ≤ n → calls_wait (calls_by s es) ≡ false
