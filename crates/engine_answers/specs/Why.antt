-- Why a call is refused, by what its entry came to.
use Rattle.std.specs.Prelude.{◌≡◌, ◌⊎◌, ℕ, true, [], Option, None}
use Rattle.std.specs.Option.{is_some}
use Rattle.std.specs.Bool.{MatchBool}
use Rattle.record_key.specs.declared.refusal.Refusal.{Refusal}
use Rattle.record_key.specs.declared.refusal.Refusal.TheVariants.{NotConnected}
use Rattle.engine_history.specs.node_laws.specs.declared.event.Out.{Out}
use Rattle.engine_history.specs.node_laws.specs.declared.event.Out.TheVariants as out
use Rattle.engine_history.specs.InFlightCalls.{EndsWithFailure}
use Rattle.engine_history.specs.Failing.{refusal_of}
use Rattle.engine_history.specs.Sessions.{SessionCall, SessionCalls, is_pending}
use Rattle.engine_history.specs.declared.failure.Failure.{Failure}

abbrev pub why_of : Out → Refusal
why_of (out.Refused q) = q
why_of _ = NotConnected

-- a step that was made for the call failed, the last one so by what it is refused for: it is unfinished, since nothing was
-- told of it, and its transaction is alive still
pub record IsHalted (c : SessionCall) (was : Option ℕ) (r : Refusal) (new : SessionCalls) : Type 0 where
  pub failure : Failure
  pub failed : EndsWithFailure [] new.failures failure
  pub why : r ≡ refusal_of failure
  pub untold : c.line ≡ None
  pub still : new.live ≡ was
  pub alive : is_some new.live ≡ true

-- as its entry says; or, where more was to be told of it, its transaction is lost or cut off, or the call is unfinished
abbrev pub IsWhy : SessionCall → Option ℕ → Refusal → SessionCalls → Type 0
IsWhy c was r new = MatchBool (is_pending c.out)
    (((r ≡ NotConnected) × (c.line ≡ None → new.live ≡ None)) ⊎ IsHalted c was r new)
    (r ≡ why_of c.out)
