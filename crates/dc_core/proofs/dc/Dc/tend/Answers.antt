use Rattle.std.proofs.Common.{◌≡◌, sym, subst}
use Rattle.dc_core.specs.DcView.{DcView}
use Rattle.dc_core.specs.Seen.{seen}
use Rattle.dc_core.specs.Tends.{may_merge}
use Rattle.dc_core.proofs.KeepsSystems.{tend_keeps}
use Rattle.dc_core.proofs.dc.Dc.tend.Goals as goal

pub invariant_of-self : goal.invariant_of-self
invariant_of-self g c =
    tend_keeps (seen c.self.inside) c.may_merge-merges.result c.tend-given.result c.tend-given.new.self c.self.invariant
    c.kept.ensures
    (subst (λ (w : DcView). c.may_merge-merges.result ≡ may_merge w) (sym c.self.view_is) c.may_merge-merges.ensures)
    c.tend-given.ensures.gives
