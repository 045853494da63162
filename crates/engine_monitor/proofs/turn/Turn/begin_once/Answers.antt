use Rattle.std.proofs.Common.{◌≡◌, ◌∙◌, ◌++◌, ◌∷◌, [], ℕ, false, List, Option, Some, None, ap}
use Rattle.std.specs.Prelude.{IfSome}
use Rattle.engine_guarded.specs.Callers.{CallerView}
use Rattle.engine_guarded.specs.Running.{made}
use Rattle.engine_guarded.specs.declared.status.CallStatus.{CallStatus}
use Rattle.engine_guarded.specs.engine_history.specs.Sessions.{is_pending, calls_by}
use Rattle.engine_guarded.specs.engine_history.specs.declared.step.Step.{Step}
use Rattle.engine_guarded.specs.engine_history.specs.node_laws.specs.declared.event.Event.TheVariants as event
use Rattle.engine_guarded.specs.engine_history.specs.node_laws.specs.declared.event.Out.{Out}
use Rattle.engine_monitor.specs.Beginning.{BeginsAlone}
use Rattle.engine_monitor.proofs.turn.Turn.begin_once.Goals as goal

begins : (r : Option CallStatus) (s : ℕ) (es now later : List Step) (o : Out) → later ≡ now
    → IfSome r (λ status. (calls_by s es).live ≡ None)
    → IfSome r (λ status. is_pending o ≡ false → now ≡ es ++ made (Some s) event.Begin o ∷ [])
    → IfSome r (λ status. BeginsAlone s o later)
begins None s es now later o same none last = tt
begins (Some status) s es now later o same none last =
    record { before = es; none = none; last = λ is. same ∙ last is }

pub returns-clause-alone : goal.returns-clause-alone
returns-clause-alone g c =
    begins c.begin-begun.result c.args.caller.now.number _ c.begin-begun.new.self.steps c.begin-begun.new.caller.steps c.begin-begun.new.outs.call
    (ap (λ (v : CallerView). v.steps) c.begin-begun.ensures.caller) c.begin-begun.ensures.alone c.begin-begun.ensures.entered
