use Rattle.std.proofs.Common.{ℕ, false, sym, subst}
use Rattle.dc_core.specs.Seen.{seen}
use Rattle.dc_core.specs.Kept.{IsDc}
use Rattle.dc_core.proofs.KeepsDc.{keeps_redone}
use Rattle.dc_core.proofs.dc.Dc.end_redo.Goals as goal

pub invariant_of-self : goal.invariant_of-self
invariant_of-self g c =
    let w = seen c.self.inside in
    subst (λ (low : ℕ). IsDc (record w { redo = false; redone_low = low })) (sym c.top_low-self-inside.ensures)
    (keeps_redone w c.self.invariant)
