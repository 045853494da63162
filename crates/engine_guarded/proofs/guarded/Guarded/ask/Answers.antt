use Rattle.std.proofs.Common.{◌≡◌, List, Some, ◌∙◌, ap, sym, subst}
use Rattle.engine_history.specs.node_laws.specs.declared.event.Event.{Event}
use Rattle.engine_history.specs.Sessions.{call_list, calls_by}
use Rattle.engine_history.specs.declared.step.Step.{Step}
use Rattle.engine_guarded.specs.Callers.{CallerView, CallsWith}
use Rattle.engine_guarded.specs.Found.{Found}
use Rattle.engine_history.proofs.NextCalls.{closed_on, still}
use Rattle.engine_guarded.proofs.guarded.Guarded.ask.Goals as goal

pub returns-in_default-clause-none : goal.returns-in_default-clause-none
returns-in_default-clause-none g c =
    let n = c.args.caller.now.number in
    let before = c.args.caller.now.steps in
    let es = c.args.self.now.steps in
    let same : c.finish.new.self.steps ≡ es =
    ap (λ (f : Found). f.steps) (c.finish.ensures.same ∙ c.see.ensures.same) in
    let on = closed_on n before es c.see.ensures.sees c.requires.closed in
    let live : c.live.result ≡ (calls_by n es).live =
    c.live.ensures ∙ (λ i. (calls_by (c.see.ensures.caller i).number (c.see.ensures.same i).steps).live) in (
      ap (λ (xs : List Step). call_list (calls_by n xs)) same ∙ on.0,
      ap (λ (xs : List Step). (calls_by n xs).live) same ∙ sym live ∙ c.in_default.is,
    )

pub returns-clause-calls : goal.returns-clause-calls
returns-clause-calls g c =
    let n = c.args.caller.now.number in
    let before = c.args.caller.now.steps in
    let es = c.args.self.now.steps in
    let on = closed_on n before es c.see.ensures.sees c.requires.closed in
    let live : c.live.result ≡ (calls_by n es).live =
    c.live.ensures ∙ (λ i. (calls_by (c.see.ensures.caller i).number (c.see.ensures.same i).steps).live) in (
      still (Some c.in-Some.txn) (calls_by n before).live (calls_by n es).live (sym c.in-Some.is ∙ live) on.2,
      subst (λ (w : CallerView × Event). CallsWith w.1 c.make-status.new.outs.call (calls_by w.0.number w.0.steps)
          c.make-status.result (calls_by w.0.number c.make-status.new.self.steps))
          (λ i. (c.see.ensures.caller i, c.into_event-event.ensures i)) c.make-status.ensures.calls,
    )
