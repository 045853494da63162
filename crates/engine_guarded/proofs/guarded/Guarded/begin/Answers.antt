use Rattle.std.proofs.Common.{◌≡◌, List, Option, ℕ, ◌∙◌, ap, sym, subst}
use Rattle.std.specs.Option.{is_some}
use Rattle.engine_history.specs.Sessions.{IsClosed, call_list, calls_by}
use Rattle.engine_history.specs.declared.step.Step.{Step}
use Rattle.engine_guarded.specs.Found.{Found}
use Rattle.engine_history.proofs.NextCalls.{closed_on}
use Rattle.engine_guarded.proofs.guarded.Guarded.begin.Goals as goal

pub returns-in-Some-clause-none : goal.returns-in-Some-clause-none
returns-in-Some-clause-none g c =
    let n = c.args.caller.now.number in
    let before = c.args.caller.now.steps in
    let es = c.args.self.now.steps in
    let same : c.finish.new.self.steps ≡ es =
    ap (λ (f : Found). f.steps) (c.finish.ensures.same ∙ c.see.ensures.same) in
    let on = closed_on n before es c.see.ensures.sees c.requires.closed in
    let live : c.live.result ≡ (calls_by n es).live =
    c.live.ensures ∙ (λ i. (calls_by (c.see.ensures.caller i).number (c.see.ensures.same i).steps).live) in (
      ap (λ (xs : List Step). call_list (calls_by n xs)) same ∙ on.0,
      ap (λ (xs : List Step). is_some (calls_by n xs).live) same ∙ ap (λ (o : Option ℕ). is_some o) (sym live ∙ c.in-Some.is),
    )

pub returns-in-Some-clause-closed : goal.returns-in-Some-clause-closed
returns-in-Some-clause-closed g c =
    let n = c.args.caller.now.number in
    let before = c.args.caller.now.steps in
    let es = c.args.self.now.steps in
    let same : c.finish.new.self.steps ≡ es =
    ap (λ (f : Found). f.steps) (c.finish.ensures.same ∙ c.see.ensures.same) in
    subst (λ (xs : List Step). IsClosed (calls_by n xs)) (sym same)
    (closed_on n before es c.see.ensures.sees c.requires.closed).1
