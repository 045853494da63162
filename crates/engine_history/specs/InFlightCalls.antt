-- What is on its way for a session's transaction, and by what its steps fail.
use Rattle.std.specs.Prelude.{◌≡◌, ℕ, ◌==◌, Bool, true, false, cond, List, [], ◌∷◌, ◌++◌, Option, Some, None}
use Rattle.node_sides.specs.node_laws.specs.declared.event.Event.{Event}
use Rattle.node_sides.specs.node_laws.specs.declared.event.Event.TheVariants as event
use Rattle.node_sides.specs.node_laws.specs.declared.event.Out.{Out}
use Rattle.node_sides.specs.node_laws.specs.declared.event.Out.TheVariants as out
use Rattle.node_sides.specs.tc_core.specs.Replies.{is_number}
use Rattle.engine_history.specs.Failing.{failure_of}
use Rattle.engine_history.specs.declared.in_flight.InFlight.{InFlight}
use Rattle.engine_history.specs.declared.failure.Failure.{Failure}

abbrev pub none_in_flight : InFlight
none_in_flight = record { request = None; reply = None; commits = false }

abbrev pub is_commit_logged : Out → Bool
is_commit_logged (out.CommitLogged n) = true
is_commit_logged _ = false

-- nothing is sent yet of a call that came to this
abbrev pub in_flight_of : Out → InFlight
in_flight_of o = record { request = None; reply = None; commits = is_commit_logged o }

-- the step is made for this transaction: it sends its request, serves that or takes the reply to it, or undoes; where the
-- transaction commits, it makes the log stable
abbrev pub serves : ℕ → InFlight → Event → Bool
serves t in_flight (event.Send u) = u == t
serves t in_flight (event.Undo u) = u == t
serves t in_flight (event.Request i) = is_number in_flight.request i
serves t in_flight (event.Reply j) = is_number in_flight.reply j
serves t in_flight event.Force = in_flight.commits
serves t in_flight _ = false

-- what is on its way after a step that was made for it
abbrev pub sent_on : InFlight → Out → InFlight
sent_on in_flight (out.Sent i) = record { request = Some i; reply = None; commits = in_flight.commits }
sent_on in_flight (out.Replied j) = record { request = in_flight.request; reply = Some j; commits = in_flight.commits }
sent_on in_flight _ = in_flight

-- the same after any step, where a transaction is alive
abbrev pub in_flight_after : Option ℕ → InFlight → Event → Out → InFlight
in_flight_after None in_flight e o = in_flight
in_flight_after (Some t) in_flight e o = cond (serves t in_flight e) (sent_on in_flight o) in_flight

-- what a step fails by that was made for the transaction that is alive
abbrev pub fails : Option ℕ → InFlight → Event → Out → Option Failure
fails None in_flight e o = None
fails (Some t) in_flight e o = cond (serves t in_flight e) (failure_of o) None

-- the failures so far, and then others, the last of them this one
abbrev pub EndsWithFailure : List Failure → List Failure → Failure → Type 0
EndsWithFailure old new f = (since : List Failure) × (new ≡ old ++ since ++ f ∷ [])

-- the failures so far, and then others; of which this one is the last, if it isn't of no matter any more
abbrev pub FailsSince : List Failure → List Failure → Option Failure → Type 0
FailsSince old new None = (since : List Failure) × (new ≡ old ++ since)
FailsSince old new (Some f) = EndsWithFailure old new f
