use Rattle.std.proofs.Common.{ℕ, subst}
use Rattle.std.specs.Prelude.{IfNone}
use Rattle.record_key.specs.Table.{Bytes}
use Rattle.codec.specs.declared.request.Request.TheVariants as asks
use Rattle.tc_core.specs.Calls.{IsReadRequest}
use Rattle.tc_core.specs.TcView.{TcView}
use Rattle.tc_core.proofs.tc.Tc.awaited_key.Goals as goal

pub returns-clause-none : goal.returns-clause-none
returns-clause-none g c =
    subst (λ (w : TcView). IfNone c.awaited_key.result
    ((read : ℕ) (key : Bytes) → IsReadRequest w c.args.txn (asks.Get w.session read key) → ⊥))
    c.self.view_is c.awaited_key.ensures.none
