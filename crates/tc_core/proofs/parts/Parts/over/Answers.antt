use Rattle.std.proofs.Common.{◌-◌, ap, sym, ◌∙◌, subst, arith}
use Rattle.tc_log.specs.LogView.{LogView}
use Rattle.tc_core.specs.Kept.{IsTc}
use Rattle.tc_core.specs.Opening.{opened}
use Rattle.tc_core.specs.TcView.{TcView}
use Rattle.tc_core.proofs.Opened.{opened_tc}
use Rattle.tc_core.proofs.parts.Parts.over.Goals as goal

pub returns-in-Ok-open-clause-kept : goal.returns-in-Ok-open-clause-kept
returns-in-Ok-open-clause-kept g c =
    let found = c.args.found in
    let work = c.in-Ok.outcome.0 in
    let locks = c.in-Ok.outcome.1 in
    let of : LogView → TcView = λ l. record (opened l.records l.usage (work.redo_start - 1) work.losers locks) {
      stable = l.stable;
    } in
    let kept = c.in-Ok.ensures in
    subst IsTc (sym (c.of.ensures ∙ ap of c.in-Ok-open.ensures.opened))
    (opened_tc found.records _ work.redo_start work.losers locks kept.log.legal (omega (arith, kept.log.numbered))
    kept.losers kept.all kept.redo kept.held)
