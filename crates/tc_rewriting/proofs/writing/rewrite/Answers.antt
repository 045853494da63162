use Rattle.std.proofs.Common.{◌≡◌, ◌∙◌, [], ap}
use Rattle.tc_log.specs.LogView.{LogView}
use Rattle.tc_log.specs.Spelled.{spelled}
use Rattle.tc_rewriting.specs.Written.{written}
use Rattle.tc_rewriting.proofs.Devices.{all_forced, is_log}
use Rattle.tc_rewriting.proofs.Tables.{rewriting_keeps}
use Rattle.tc_rewriting.proofs.writing.rewrite.Goals as goal

pub returns-in-Ok : goal.returns-in-Ok
returns-in-Ok g c =
    let log = c.write_forced.new.log in
    let left = c.stop.result in
    let done = c.in-Ok.ensures in
    let is : log.records ≡ written c.args.rows.now [] =
    done.written ∙ ap (λ (v : LogView). written c.args.rows.now v.records) c.new-log.ensures in
    let both = all_forced log.records log.stable (g.D.LogDevice.forced left) (g.D.LogDevice.pending left)
    c.stop.ensures.forced.0 done.forced c.stop.ensures.holds c.stop.ensures.forced.1 in
    record {
      forced = both.0 ∙ ap spelled is;
      none_pending = both.1;
      log = is_log (g.D.LogDevice.forced left) log.records (written c.args.rows.now []) is
          (rewriting_keeps c.args.rows.now c.requires.sorted).ended.legal both.0 c.stop.ensures.spellable done.numbered;
      refused = tt;
    }
