use Rattle.std.proofs.Common.{sym, subst, inl, inr}
use Rattle.stable.specs.Usage.{Usage}
use Rattle.node_world.specs.tc_core.specs.Opening.{IsMadeOf}
use Rattle.node_store.specs.Opening.{IsFit}
use Rattle.node_store.proofs.opening.open.Goals as goal

pub over-requires-2-clause-log : goal.over-requires-2-clause-log
over-requires-2-clause-log g c =
    let tc = c.in-Ok-over.tc in
    let found = c.in_ok-found.found in
    let made = c.in-Ok-over.ensures in
    let fit : IsFit tc.log = subst IsFit (sym made.log) c.in_ok-found.ensures.fit in
    record {
      bytes = found.bytes;
      usage = g.D.LogDevice.usage c.args.log;
      opened = subst (λ (u : Usage). IsMadeOf found.bytes u tc) c.in_ok-found.ensures.called made.made;
      right = fit.right;
      unchecked = elim c.kept.ensures.low.checkpointed [
        | inl latest ↦ absurd (fit.unchecked latest.is.0 tc.checkpointed latest.is.1)
        | inr none ↦ none.0
      ];
    }
