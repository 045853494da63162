use Rattle.std.proofs.Common.{sym, subst}
use Rattle.dc_core.specs.Seen.{seen}
use Rattle.dc_core.specs.Kept.{IsDc}
use Rattle.dc_core.specs.Serves.{with_system}
use Rattle.dc_core.proofs.KeepsSystems.{lower_keeps}
use Rattle.dc_store.specs.SystemView.{SystemView}
use Rattle.dc_store.specs.Kept.{IsSystem}
use Rattle.dc_core.proofs.dc.Dc.lower.Goals as goal

pub invariant_of-self : goal.invariant_of-self
invariant_of-self g c =
    let w = seen c.self.inside in
    subst (λ (v : SystemView). IsDc (with_system w v)) (sym c.lower.ensures)
    (lower_keeps w c.args.low c.self.invariant (subst IsSystem c.lower.ensures c.kept.ensures))
