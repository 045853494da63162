use Rattle.std.proofs.Common.{ap, sym, subst}
use Rattle.engine_history.specs.Kept.{is_dc}
use Rattle.engine_history.specs.Views.{View, Sees}
use Rattle.engine_history.proofs.Sitting.{dc_kept_on}
use Rattle.engine_history.proofs.latched_dc.LatchedDc.look.Goals as goal

pub invariant_of-self : goal.invariant_of-self
invariant_of-self g c =
    let s = c.self.inside in let look = c.look_dc.ensures in
    dc_kept_on g.J.Naming.start g.J.Naming.names s.cursor c.look_dc.new.cursor _ c.self.invariant
    (ap (λ (x : View). x.name) look.cursor)
    (subst (λ (x : View). Sees is_dc s.cursor.steps x.steps) (sym look.cursor) look.sees)
