-- What is known of what is made of a result.
use Rattle.std.specs.Prelude.{IfOk, IfSome, OnOk}
use Rattle.std.specs.Result.{result_ok}
use Rattle.std.proofs.Common.{◌≡◌, ℕ, ◌≤◌, true, List, sym, le_trans, Result, Ok, Err}
use Rattle.boxcar.specs.Table.{Shelves}
use Rattle.record_key.specs.declared.refusal.Refusal.{Refusal}
use Rattle.engine_answers.specs.node_laws.specs.declared.event.Event.{Event}
use Rattle.engine_answers.specs.engine_history.specs.Commands.{commands}
use Rattle.engine_answers.specs.engine_history.specs.Latched.{DcFound}
use Rattle.engine_answers.specs.engine_history.specs.Steps.{Start, GivesDc}
use Rattle.engine_answers.specs.engine_history.specs.Witnessed.{AreWitnessed, DcRan, WasStable}

-- what holds of what came well holds of it alone
pub alone : {T E : Type 0} (P : T → Type 0) (r : Result T E) → IfOk r P → IfSome (result_ok r) P
alone P (Ok x) holds = holds
alone P (Err e) holds = holds

-- the session of a data component that runs
pub ran_in : (start : Start) (entries : Shelves) (given : List Event) (found : DcFound) (r : Result ℕ Refusal)
    → commands found.steps ≡ given → GivesDc start found.steps found.state
    → AreWitnessed entries found.steps → IfOk r (λ s. s ≡ found.state.side.dc.session)
    → OnOk r (found.state.side.up ≡ true) → IfOk r (DcRan start entries given)
ran_in start entries given found (Ok s) after gives shown is up = record {
  steps = found.steps;
  shown = shown;
  after = after;
  state = found.state;
  gives = gives;
  up = up;
  session_is = sym is;
}
ran_in start entries given found (Err refusal) after gives shown is up = is

-- what lies below a record that was stable was so too
pub stable_below : (start : Start) (entries : Shelves) (n m : ℕ) → n ≤ m → WasStable start entries m → WasStable start entries n
stable_below start entries n m below was = record {
  steps = was.steps;
  shown = was.shown;
  state = was.state;
  gives = was.gives;
  up_to = le_trans below was.up_to;
}
