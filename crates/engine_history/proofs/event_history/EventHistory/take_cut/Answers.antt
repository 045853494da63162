use Rattle.std.proofs.Common.{ℕ, subst}
use Rattle.engine_history.specs.Waiting.{IsStatusAt}
use Rattle.engine_history.specs.declared.status.CallStatus.TheVariants as status
use Rattle.engine_history.proofs.event_history.EventHistory.take_cut.Goals as goal

pub returns-clause-cut : goal.returns-clause-cut
returns-clause-cut g c is_true =
    c.show.ensures.status c.requires.untold status.CutOff
    (subst (λ (n : ℕ). IsStatusAt c.self.inside.places.items n status.CutOff) c.number.ensures
    (c.is_cut_at.ensures c.if-not-is_cut_at.false))
