use Rattle.dc_core.proofs.KeepsDc.{keeps_opened}
use Rattle.dc_core.proofs.dc.Dc.restart.Goals as goal

pub invariant_of-result : goal.invariant_of-result
invariant_of-result g c =
    let opened = c.in_ok-opened.opened in
    let top = c.top_of-top.result in
    keeps_opened opened.system opened.stored_session top top c.of-base.result.table c.new.result.list.items c.kept.ensures
    c.in_ok-opened.ensures.recovers.stable c.in_ok-opened.ensures.stored c.top_of-top.ensures c.of-base.ensures
    c.new.ensures
