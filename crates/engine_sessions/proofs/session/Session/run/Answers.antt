use Rattle.std.proofs.Common.{◌≡◌, ℕ, Some, subst}
use Rattle.std.specs.Prelude.{IfOk}
use Rattle.engine_shared.specs.engine_answers.specs.Answers.{Ends}
use Rattle.engine_shared.specs.engine_answers.specs.Asking.{event_of}
use Rattle.engine_shared.specs.engine_history.specs.Callers.{SessionView}
use Rattle.engine_sessions.proofs.session.Session.run.Goals as goal

pub returns-clause-ends : goal.returns-clause-ends
returns-clause-ends g c =
    subst (λ (old : SessionView). IfOk c.run.result (λ ended. (t : ℕ) × (old.calls.live ≡ Some t)
    × Ends g.J.Naming.entries (event_of t c.args.ask) old.calls ended c.run.new.caller.calls))
    c.self.view_is c.run.ensures.ends
