use Rattle.std.proofs.Common.{◌≡◌, ◌∙◌, true, sym, subst}
use Rattle.dc_core.specs.DcView.{DcView}
use Rattle.dc_core.specs.Seen.{seen}
use Rattle.dc_core.specs.Tends.{may_merge}
use Rattle.dc_core.proofs.KeepsSystems.{merge_keeps}
use Rattle.dc_core.proofs.dc.Dc.merge.Goals as goal

pub invariant_of-self : goal.invariant_of-self
invariant_of-self g c =
    let may : may_merge (seen c.self.inside) ≡ true =
    subst (λ (w : DcView). may_merge w ≡ true) (sym c.self.view_is)
    (sym c.may_merge.ensures ∙ c.if-not-may_merge.false) in
    merge_keeps (seen c.self.inside) c.args.key.now c.merge-given.result c.merge-given.new.self c.self.invariant
    c.kept.ensures may c.merge-given.ensures.gives
