use Rattle.std.proofs.Common.{◌∙◌, ℕ, ap, subst}
use Rattle.engine_history.specs.Commands.{commands}
use Rattle.engine_history.specs.Kept.{calls_of}
use Rattle.engine_history.specs.Views.{Sees}
use Rattle.engine_guarded.specs.Callers.{CallerView}
use Rattle.engine_guarded.specs.Found.{Found}
use Rattle.engine_guarded.specs.Running.{GoesOn}
use Rattle.engine_guarded.proofs.Commanding.{commands_seen}
use Rattle.engine_guarded.proofs.Running.{sees_on, sees_then}
use Rattle.engine_guarded.proofs.guarded.Guarded.restart.Goals as goal

pub returns-clause-given : goal.returns-clause-given
returns-clause-given g c =
    let n = g.J.Naming.sessions in
    let own = c.args.own.now.steps in
    let es = c.bring_up-up.new.self.steps in
    let on : GoesOn c.args.self.now.steps es =
    subst (λ (f : Found). GoesOn f.steps es) c.see.ensures.same c.bring_up-up.ensures.on in
    let sees : Sees (calls_of n) own c.args.self.now.steps =
    subst (λ (k : ℕ). Sees (calls_of k) own c.args.self.now.steps) c.requires.own c.see.ensures.sees in
    ap (λ (v : CallerView). commands v.steps) c.finish.ensures.caller
    ∙ commands_seen n own es c.kept.ensures.owned
    (sees_then n own c.args.self.now.steps es sees (sees_on n c.args.self.now.steps es on))
