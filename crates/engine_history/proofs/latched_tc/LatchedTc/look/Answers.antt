use Rattle.std.proofs.Common.{ap, sym, subst}
use Rattle.engine_history.specs.Steps.{is_tc}
use Rattle.engine_history.specs.Views.{View, Sees}
use Rattle.engine_history.proofs.Sitting.{tc_kept_on}
use Rattle.engine_history.proofs.latched_tc.LatchedTc.look.Goals as goal

pub invariant_of-self : goal.invariant_of-self
invariant_of-self g c =
    let s = c.self.inside in let look = c.look_tc.ensures in
    tc_kept_on g.J.Naming.start g.J.Naming.names g.J.Naming.marks s.cursor c.look_tc.new.cursor _ s.seat c.self.invariant
    (ap (λ (x : View). x.name) look.cursor)
    (subst (λ (x : View). Sees is_tc s.cursor.steps x.steps) (sym look.cursor) look.sees)
