use Rattle.std.proofs.Common.{subst}
use Rattle.tc_restart.specs.Heaps.{seen}
use Rattle.tc_restart.specs.Losers.{LosersView, TakesComp}
use Rattle.tc_restart.proofs.losers.Losers.compensated.Goals as goal

pub returns-clause-taken : goal.returns-clause-taken
returns-clause-taken c =
    subst (λ (l : LosersView). TakesComp l c.args.number c.args.next (seen c.compensated.new.self)) c.self.view_is
    c.compensated.ensures.taken
