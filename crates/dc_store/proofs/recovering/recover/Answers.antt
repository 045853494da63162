use Rattle.std.proofs.Common.{ℕ, ◌∙◌, ap}
use Rattle.stable.specs.Usage.{called_often}
use Rattle.dc_store.specs.Uses.{log_calls}
use Rattle.dc_store.proofs.Found.{uncut_stops}
use Rattle.dc_store.proofs.recovering.recover.Goals as goal

pub returns-in-Err-cut_off-clause-stopped : goal.returns-in-Err-cut_off-clause-stopped
returns-in-Err-cut_off-clause-stopped g c =
    uncut_stops _ _ _ _ _ _ _ c.in-Err-cut_off.ensures.refused c.in-Ok.ensures.log_used c.in-Ok.ensures.pages_used
    c.in-Err-cut_off.ensures.due c.in-Err-cut_off.ensures.failed

pub returns-clause-log_used : goal.returns-clause-log_used
returns-clause-log_used g c =
    c.in_default.ensures.used (g.D.LogDevice.usage c.args.log.now) c.in-Ok.ensures.log_used
    ∙ ap (λ (n : ℕ). called_often (log_calls c.in-Ok.found.0.end n) (g.D.LogDevice.usage c.args.log.now))
    c.in-Ok.ensures.length
