use Rattle.std.proofs.Common.{◌≡◌, ◌∙◌, Option, Some, ap, sym, subst}
use Rattle.engine_guarded.specs.engine_history.specs.Sessions.{is_pending, line_of}
use Rattle.engine_guarded.specs.engine_history.specs.node_laws.specs.declared.event.Out.{Out}
use Rattle.engine_monitor.proofs.Ending.{follows_status, left_with}
use Rattle.engine_monitor.specs.Ending.{IsHalfDone, IsLeftWith, calls_in}
use Rattle.engine_monitor.specs.declared.ended.Unfinished.{Unfinished}
use Rattle.engine_monitor.proofs.turn.Turn.again.Goals as goal

pub carry_on-ended-requires-clause-made : goal.carry_on-ended-requires-clause-made
carry_on-ended-requires-clause-made g c =
    let old = calls_in c.args.caller.now in
    let o = c.args.outs.now.call in
    let left : c.args.unfinished.now ≡ Some c.in-Some.call = sym c.take.ensures.value ∙ c.in-Some.is in
    let was : IsHalfDone old c.in-Some.call.sort o =
    subst (λ (u : Option Unfinished). IsLeftWith old u o) left c.requires.rest.1 in (
      old,
      ap line_of was.latest,
      follows_status c.resume_once-status.new.outs.call old (calls_in c.resume_once-status.new.caller) c.resume_once-status.result
          (ap is_pending c.resume_once-status.ensures.call ∙ was.awaited) c.resume_once-status.ensures.status,
    )

pub returns-clause-rest : goal.returns-clause-rest
returns-clause-rest g c =
    let old = calls_in c.args.caller.now in
    let sort = c.in-Some.call.sort in
    let o = c.resume_once-status.new.outs.call in
    let new = calls_in c.carry_on-ended.new.caller in
    let left : c.args.unfinished.now ≡ Some c.in-Some.call = sym c.take.ensures.value ∙ c.in-Some.is in
    let was : IsHalfDone old sort o =
    subst (λ (w : Option Unfinished × Out). IsLeftWith old w.0 w.1)
    (λ i. (left i, sym c.resume_once-status.ensures.call i)) c.requires.rest.1 in
    let follows =
    follows_status o old (calls_in c.resume_once-status.new.caller) c.resume_once-status.result was.awaited
    c.resume_once-status.ensures.status in (
      c.carry_on-ended.ensures.rest,
      subst (λ (w : Option Unfinished × Out). IsLeftWith new w.0 w.1)
          (λ i. (sym c.left_by.ensures i, sym c.carry_on-ended.ensures.call i))
          (left_with c.in-Some.call.txn sort was.event o old new c.carry_on-ended.result was.sort_is was.latest
          (c.carry_on-ended.ensures.ends old follows)),
    )
