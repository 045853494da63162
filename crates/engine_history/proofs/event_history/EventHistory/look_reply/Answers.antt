use Rattle.std.proofs.Common.{List, sym, subst}
use Rattle.engine_history.specs.declared.step.Step.{Step}
use Rattle.engine_history.specs.Commands.{OwnKept}
use Rattle.engine_history.specs.Kept.{PlacesKept}
use Rattle.engine_history.proofs.event_history.EventHistory.look_reply.Goals as goal

pub invariant_of-self : goal.invariant_of-self
invariant_of-self g c =
    let J = g.J.Naming in (
      subst (λ (es : List Step). PlacesKept J.entries J.names es c.self.inside.places.items)
          (sym c.meet_tc.ensures.same) c.self.invariant.0,
      c.self.invariant.1,
      subst (λ (es : List Step). OwnKept J.names es c.self.inside.own) (sym c.meet_tc.ensures.same) c.self.invariant.2,
    )
