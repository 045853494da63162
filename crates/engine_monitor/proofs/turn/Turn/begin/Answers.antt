use Rattle.std.proofs.Common.{ap, sym, subst}
use Rattle.std.proofs.lemmas.Result.{on_ok_weaker}
use Rattle.engine_guarded.specs.engine_history.specs.node_laws.specs.declared.event.Event.TheVariants as event
use Rattle.engine_guarded.specs.engine_history.specs.node_laws.specs.declared.event.Out.{Out}
use Rattle.engine_monitor.proofs.Beginning.{ends_after, left_free}
use Rattle.engine_monitor.specs.Ending.{Ends, calls_in}
use Rattle.engine_monitor.proofs.turn.Turn.begin.Goals as goal

pub returns-clause-ends : goal.returns-clause-ends
returns-clause-ends g c =
    let old = calls_in c.args.caller.now in
    let was = calls_in c.free.new.caller in
    let new = calls_in c.carry_on-ended.new.caller in
    let how = c.carry_on-ended.result in
    let made = c.in_ok-status.ensures.calls in
    let left =
    left_free c.free.result old was (on_ok_weaker c.free.result (λ same. ap calls_in same.0) c.free.ensures.free)
    c.free.ensures.barred in
    subst (λ (o : Out). Ends event.Begin o old how new) (sym c.carry_on-ended.ensures.call)
    (ends_after event.Begin c.begin_once.new.outs.call old was made.mid new how c.free.ensures.calls left made.called
    (c.carry_on-ended.ensures.ends made.mid made.follows))
