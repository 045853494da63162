use Rattle.std.proofs.Common.{List, sym, subst}
use Rattle.std.specs.List.{AllByRecursion}
use Rattle.engine_guarded.specs.engine_history.specs.declared.step.Step.{Step}
use Rattle.engine_monitor.specs.Engines.{IsCovered}
use Rattle.engine_monitor.proofs.Closing.{covered}
use Rattle.engine_monitor.proofs.engine.Engine.close.Goals as goal

pub returns-clause-kept : goal.returns-clause-kept
returns-clause-kept g c =
    subst (λ (es : List Step). AllByRecursion (IsCovered es) c.args.sessions.items) (sym c.close.ensures.steps)
    (covered _ c.in_ok-callers.callers.items c.args.sessions.items c.in_ok-callers.ensures.callers c.close.ensures.seen)
