use Rattle.std.proofs.Common.{ℕ, List, ◌∙◌, ap, sym, subst}
use Rattle.engine_history.specs.Sessions.{calls_by}
use Rattle.engine_history.specs.declared.step.Step.{Step}
use Rattle.engine_guarded.specs.Callers.{CallerView, CallsWith, IsMade, IsStatus}
use Rattle.engine_guarded.specs.Found.{Found}
use Rattle.engine_guarded.proofs.Calls.{calls_with}
use Rattle.engine_guarded.proofs.guarded.Guarded.make.Goals as goal

pub returns-clause-calls : goal.returns-clause-calls
returns-clause-calls g c =
    let n = c.args.caller.now.number in
    let before = c.args.caller.now.steps in
    let e = c.args.event.now in
    let o = c.call.new.out in
    let mid = c.call.new.self.steps in
    let now = c.go_on.new.self.steps in
    let r = c.finish.result in
    let number = ap (λ (v : CallerView). v.number) c.call.ensures.caller in
    let busy = ap (λ (v : CallerView). v.busy) c.call.ensures.caller in
    let same = ap (λ (f : Found). f.steps) c.finish.ensures.same in
    let found : IsMade n mid now → IsStatus (calls_by n mid) (calls_by n now) r =
    λ made. subst (λ (s : ℕ). IsStatus (calls_by s mid) (calls_by s now) r) number
    (c.finish.ensures.amid busy mid (subst (λ (s : ℕ). IsMade s mid now) (sym number) made)) in
    subst (λ (xs : List Step). CallsWith e o (calls_by n before) r (calls_by n xs)) (sym same)
    (calls_with n before c.args.self.now.steps mid now e o r c.requires.sees c.requires.closed c.call.ensures.steps
    c.go_on.ensures.on (λ is. c.go_on.ensures.done (c.of.ensures is)) found)

pub returns-clause-entered : goal.returns-clause-entered
returns-clause-entered g c is =
    ap (λ (f : Found). f.steps) c.finish.ensures.same ∙ c.go_on.ensures.done (c.of.ensures is) ∙ c.call.ensures.steps
