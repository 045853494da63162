use Rattle.std.proofs.Common.{◌≡◌, ◌∙◌, ℕ, List, take, ap, length, sym}
use Rattle.stable.specs.Usage.{called_often}
use Rattle.dc_store.specs.Devices.{spelled}
use Rattle.dc_store.specs.LogView.{ChangeLogView}
use Rattle.dc_store.specs.Seen.{seen}
use Rattle.dc_store.specs.SystemView.{SystemView}
use Rattle.dc_store.specs.Uses.{log_calls}
use Rattle.dc_store.proofs.Found.{IsOpened, open_kept, open_recovers, unheld_stops}
use Rattle.dc_store.proofs.system.SystemTxns.open.Goals as goal

pub invariant_of-system : goal.invariant_of-system
invariant_of-system g c =
    let found = c.in-Ok.ensures.found in
    let v : SystemView =
    seen (g.L.LeafSet.leaves c.in-Ok-from_leaves.leaves) c.reopened-log.result
    (g.P.PageDevice.pages c.find.new.pages) (g.P.PageDevice.usage c.find.new.pages) in
    let left = c.in_default.ensures.cut
    ∙ ap (λ (b : List ℕ). take c.in-Ok.found.0.end b) c.in-Ok.ensures.log_left ∙ found.left_is in
    let log = c.reopened-log.ensures found.log found.held.records left in
    let so : IsOpened (g.P.PageDevice.pages c.args.pages) c.in-Ok.found.0 found.log v = record {
      leaves = c.in-Ok-from_leaves.ensures.these;
      log_is = ap (λ (l : ChangeLogView). l.log) log;
      stable = ap (λ (l : ChangeLogView). l.stable) log;
      pages_are = c.find.ensures.pages_left;
    } in
    open_kept _ _ _ c.in-Ok.found.0 found v so

pub returns-clause-recovers : goal.returns-clause-recovers
returns-clause-recovers g c =
    let found = c.in-Ok.ensures.found in
    let v : SystemView =
    seen (g.L.LeafSet.leaves c.in-Ok-from_leaves.leaves) c.reopened-log.result
    (g.P.PageDevice.pages c.find.new.pages) (g.P.PageDevice.usage c.find.new.pages) in
    let left = c.in_default.ensures.cut
    ∙ ap (λ (b : List ℕ). take c.in-Ok.found.0.end b) c.in-Ok.ensures.log_left ∙ found.left_is in
    let log = c.reopened-log.ensures found.log found.held.records left in
    let so : IsOpened (g.P.PageDevice.pages c.args.pages) c.in-Ok.found.0 found.log v = record {
      leaves = c.in-Ok-from_leaves.ensures.these;
      log_is = ap (λ (l : ChangeLogView). l.log) log;
      stable = ap (λ (l : ChangeLogView). l.stable) log;
      pages_are = c.find.ensures.pages_left;
    } in
    open_recovers _ _ _ c.in-Ok.found.0 found v so

pub returns-clause-log_used : goal.returns-clause-log_used
returns-clause-log_used g c =
    let found = c.in-Ok.ensures.found in
    let left = c.in_default.ensures.cut
    ∙ ap (λ (b : List ℕ). take c.in-Ok.found.0.end b) c.in-Ok.ensures.log_left ∙ found.left_is in
    let log = c.reopened-log.ensures found.log found.held.records left in
    let whole : c.in-Ok.found.0.end ≡ length (spelled c.reopened-log.result.log) = found.end
    ∙ ap (λ (l : ChangeLogView). length (spelled l.log)) (sym log) in
    let all = c.in-Ok.ensures.length in
    ap (λ (l : ChangeLogView). l.usage) log
    ∙ c.in_default.ensures.used (g.D.LogDevice.usage c.args.log) c.in-Ok.ensures.log_used
    ∙ (λ i. called_often (log_calls (whole i) (all i)) (g.D.LogDevice.usage c.args.log))

pub returns-in-Err-from_leaves-clause-stopped : goal.returns-in-Err-from_leaves-clause-stopped
returns-in-Err-from_leaves-clause-stopped g c =
    rw c.refused-in-Err-from_leaves.ensures
    (unheld_stops _ c.in-Err-from_leaves.refusal _ _ _ _ c.in-Err-from_leaves.ensures.memory c.in-Ok.ensures.log_used
    c.in-Ok.ensures.pages_used)
