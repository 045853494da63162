use Rattle.std.proofs.Common.{subst}
use Rattle.tc_restart.specs.Losers.{LosersView, FindsNext}
use Rattle.tc_restart.proofs.losers.Losers.lose_next.Goals as goal

pub returns : goal.returns
returns c = subst (λ (l : LosersView). FindsNext l c.lose_next.result) c.self.view_is c.lose_next.ensures
