use Rattle.std.proofs.Common.{◌∙◌, false, ap, length, sym}
use Rattle.dc_recovery.specs.Recovery.{stored_session}
use Rattle.dc_store.specs.SystemView.{SystemView}
use Rattle.dc_core.specs.DcView.{top_of}
use Rattle.dc_core.proofs.KeepsDc.{keeps_opened, first_rows}
use Rattle.dc_core.proofs.dc.Dc.new.Goals as goal

pub invariant_of-result : goal.invariant_of-result
invariant_of-result g c =
    let fresh = c.in-Ok.ensures.fresh in
    keeps_opened c.in-Ok.system 0 0 0 c.of-opened.result.table c.new-2.result.list.items c.kept.ensures
    (ap (λ (v : SystemView). v.stable) fresh ∙ sym (ap (λ (v : SystemView). length v.log) fresh))
    (sym (ap (λ (v : SystemView). stored_session v.log) fresh)) (sym (ap (λ (v : SystemView). top_of v.leaves) fresh))
    c.of-opened.ensures c.new-2.ensures

pub returns-clause-fresh : goal.returns-clause-fresh
returns-clause-fresh g c =
    let fresh = c.in-Ok.ensures.fresh in
    let rows = first_rows c.in-Ok.system c.of-opened.result.table _ _ fresh c.of-opened.ensures in
    λ i. record {
      stored = 0;
      session = 0;
      redo = false;
      known = 0;
      opened_to = 0;
      redone_low = 0;
      system = fresh i;
      opened = rows i;
      performed = c.new-2.ensures i;
    }
