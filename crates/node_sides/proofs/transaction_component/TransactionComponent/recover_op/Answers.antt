use Rattle.std.proofs.Common.{◌≡◌, ℕ, true, Option, Some, None, sym, subst}
use Rattle.std.specs.Prelude.{IfNone}
use Rattle.node_laws.specs.tc_core.specs.Recovery.{SendsOp}
use Rattle.node_laws.specs.tc_core.specs.TcView.{TcView}
use Rattle.node_sides.specs.Seen.{tc_of}
use Rattle.node_sides.proofs.transaction_component.TransactionComponent.recover_op.Goals as goal

none_up : (r : Option ℕ) (w : TcView) → IfNone r ((number : ℕ) (new : TcView) → SendsOp w number new → ⊥)
    → IfNone r (true ≡ true → (number : ℕ) (new : TcView) → SendsOp w number new → ⊥)
none_up None w none = λ up. none
none_up (Some n) w none = tt

pub returns-clause-none : goal.returns-clause-none
returns-clause-none g c =
    subst (λ component. IfNone c.recover_op.result ((tc_of component).up ≡ true → (number : ℕ) (new : TcView)
    → SendsOp (tc_of component).tc number new → ⊥)) (sym c.in-Up.is)
    (none_up c.recover_op.result c.in-Up.tc c.recover_op.ensures.none)
