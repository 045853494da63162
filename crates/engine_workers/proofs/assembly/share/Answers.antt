use Rattle.std.proofs.Common.{sym, subst}
use Rattle.engine_workers.specs.Opened.{AreAgreed, OpenedView}
use Rattle.engine_workers.proofs.assembly.share.Goals as goal

pub start_all-requires-clause-agreed : goal.start_all-requires-clause-agreed
start_all-requires-clause-agreed g c =
    let names = g.J.Naming.names in
    subst (λ (o : OpenedView). AreAgreed names o.sessions) (sym c.opened.view_is) c.requires.named.agreed
