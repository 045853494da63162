use Rattle.std.proofs.Common.{◌≡◌, ℕ, true, sym, subst}
use Rattle.std.specs.Prelude.{IfNone}
use Rattle.node_laws.specs.tc_core.specs.Recovery.{SendsOp}
use Rattle.node_laws.specs.tc_core.specs.TcView.{TcView}
use Rattle.node_laws.specs.Component.{TcSide}
use Rattle.node_sides.specs.Seen.{tc_in}
use Rattle.node_sides.proofs.tc_side.TcSide.recover_op.Goals as goal

pub returns-clause-none : goal.returns-clause-none
returns-clause-none g c =
    let Says : TcSide → Type 0 = λ side. IfNone c.recover_op-number.result
    (side.up ≡ true → (number : ℕ) (new : TcView) → SendsOp side.tc number new → ⊥) in
    subst Says c.self.view_is
    (subst (λ component. Says (tc_in component)) (sym c.in-Some.is) c.recover_op-number.ensures.none)
