use Rattle.std.specs.Prelude.{IfSome}
use Rattle.std.proofs.Common.{Option, sym, subst}
use Rattle.engine_answers.specs.engine_history.specs.Slots.{Slot, Shown}
use Rattle.engine_shared.proofs.Results.{alone}
use Rattle.engine_shared.proofs.shared.Shared.served.Goals as goal

pub returns : goal.returns
returns g c =
    subst (λ (o : Option Slot). IfSome o (Shown g.J.Naming.entries)) (sym c.ok.ensures.value)
    (alone (Shown g.J.Naming.entries) c.serve-served.result c.serve-served.ensures.shown)
