use Rattle.std.proofs.Common.{ℕ, sym, subst}
use Rattle.stable.specs.Usage.{failing_in}
use Rattle.dc_store.specs.declared.devices.Device.{Device}
use Rattle.dc_store.specs.declared.devices.Device.TheVariants as device
use Rattle.dc_store.specs.SystemView.{SystemView, failing_at}
use Rattle.dc_core.specs.DcView.{DcView}
use Rattle.dc_core.specs.Kept.{IsDc}
use Rattle.dc_core.specs.Seen.{seen}
use Rattle.dc_core.specs.Serves.{with_system}
use Rattle.dc_core.proofs.KeepsSystems.{usage_keeps}
use Rattle.dc_core.proofs.dc.Dc.fail_at.Goals as goal

failing_keeps : (w : DcView) (d : Device) (n : ℕ) → IsDc w → IsDc (with_system w (failing_at d n w.system))
failing_keeps w device.Log n k = usage_keeps w (failing_in n w.system.log_usage) w.system.page_usage k
failing_keeps w device.Pages n k = usage_keeps w w.system.log_usage (failing_in n w.system.page_usage) k

pub invariant_of-self : goal.invariant_of-self
invariant_of-self g c =
    subst (λ (v : SystemView). IsDc (with_system (seen c.self.inside) v)) (sym c.fail_at.ensures)
    (failing_keeps (seen c.self.inside) c.args.device c.args.n c.self.invariant)
