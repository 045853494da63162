use Rattle.std.proofs.Common.{subst}
use Rattle.std.specs.Prelude.{IfNone}
use Rattle.codec.specs.declared.request.Request.{Request}
use Rattle.tc_core.specs.Calls.{IsOpRequest}
use Rattle.tc_core.specs.TcView.{TcView}
use Rattle.tc_core.proofs.tc.Tc.awaited_op.Goals as goal

pub returns-clause-none : goal.returns-clause-none
returns-clause-none g c =
    subst (λ (w : TcView). IfNone c.awaited_op.result ((request : Request) → IsOpRequest w c.args.txn request → ⊥))
    c.self.view_is c.awaited_op.ensures.none
