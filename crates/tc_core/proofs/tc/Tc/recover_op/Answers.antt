use Rattle.std.proofs.Common.{ℕ, subst}
use Rattle.std.specs.Prelude.{IfNone}
use Rattle.tc_core.specs.Recovery.{SendsOp}
use Rattle.tc_core.specs.TcView.{TcView}
use Rattle.tc_core.proofs.tc.Tc.recover_op.Goals as goal

pub returns-clause-none : goal.returns-clause-none
returns-clause-none g c =
    subst (λ (w : TcView). IfNone c.recover_op.result ((number : ℕ) (new : TcView) → SendsOp w number new → ⊥))
    c.self.view_is c.recover_op.ensures.none
