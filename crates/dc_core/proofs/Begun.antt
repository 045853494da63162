-- A session that begins, or that was refused, leaves the component as it must be.
use Rattle.std.proofs.Common.{◌≡◌, ℕ, sym, ap, subst}
use Rattle.std.specs.Prelude.{Err}
use Rattle.record_key.specs.declared.refusal.Refusal.{Refusal}
use Rattle.dc_store.specs.Kept.{IsSystem}
use Rattle.dc_store.specs.Gives.{AcceptGives}
use Rattle.dc_core.specs.DcView.{DcView}
use Rattle.dc_core.specs.Serves.{MayTakeBack, with_system, connected}
use Rattle.dc_core.specs.Kept.{IsDc}
use Rattle.dc_core.proofs.KeepsConnected.{keeps_connected}
use Rattle.dc_core.proofs.KeepsSystems.{refused_keeps}

module _ (w : DcView) (s end : ℕ) (k : IsDc w) where
  pub keeps_begun : (new : DcView) → MayTakeBack w end → IsSystem new.system → new ≡ connected w s end → IsDc new
  keeps_begun new back is same =
      subst IsDc (sym same) (keeps_connected w end k back s (subst IsSystem (ap (λ (x : DcView). x.system) same) is))

  pub keeps_refused : (r : Refusal) (new : DcView) → IsSystem new.system
      → AcceptGives w.system s end (Err r) new.system → new ≡ with_system w new.system → IsDc new
  keeps_refused r new is gives rest = subst IsDc (sym rest) (refused_keeps w s end r new.system k is gives)
