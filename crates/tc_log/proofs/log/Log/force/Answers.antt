use Rattle.std.proofs.Common.{◌≡◌, sym, ap, ◌∙◌, length, refl}
use Rattle.tc_log.specs.LogView.{LogView}
use Rattle.tc_log.proofs.Kept.{kept_all}
use Rattle.tc_log.proofs.log.Log.force.Goals as goal

pub invariant_of-self-2 : goal.invariant_of-self-2
invariant_of-self-2 g c =
    let end : c.len-end.result ≡ length c.self.inside.frames.records = c.len-end.ensures.count
    ∙ ap (λ (v : LogView). length v.records) (sym c.self.view_is) in
    rw (end, c.in_ok-force.ensures.forced)
    (kept_all g.D.LogDevice.forces_whole _ c.answered_of_all-answered.result c.self.inside.last_not_session
    c.self.invariant.all_read c.self.invariant.stored refl
    (rw (← c.self.view_is) at c.answered_of_all-answered.ensures) c.self.invariant.last_is)
