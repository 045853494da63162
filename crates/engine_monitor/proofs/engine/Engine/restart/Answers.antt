use Rattle.std.specs.Prelude.{OnOk}
use Rattle.std.proofs.Common.{List, Result, Ok, Err, ap, sym, ◌∙◌, subst}
use Rattle.engine_guarded.specs.Callers.{CallerView}
use Rattle.engine_guarded.specs.Running.{PassesFrom}
use Rattle.engine_guarded.specs.engine_history.specs.Commands.{commands}
use Rattle.engine_guarded.specs.engine_history.specs.declared.step.Step.{Step}
use Rattle.engine_monitor.proofs.engine.Engine.restart.Goals as goal

-- what follows from what a good result says
on_ok : {T E A B : Type 0} (r : Result T E) → (A → B) → OnOk r A → OnOk r B
on_ok (Ok x) f holds = f holds
on_ok (Err e) f holds = holds

pub returns-clause-up : goal.returns-clause-up
returns-clause-up g c =
    let J = g.J.Naming in
    let new = c.restart-up.new.self in
    let all = c.shown.ensures.steps_are ∙ ap (λ (v : CallerView). v.steps) c.restart-up.ensures.own in
    on_ok c.restart-up.result (λ running. record {
      entry = c.shown.ensures.entry;
      shown = c.shown.ensures.shown;
      node = new.node;
      passes = subst (λ (es : List Step). PassesFrom J.start es new.node) (sym all) c.kept.ensures.passes;
      running = running;
      after = ap commands c.shown.ensures.steps_are ∙ c.restart-up.ensures.given ∙ c.self.view_is;
    }) c.restart-up.ensures.up
