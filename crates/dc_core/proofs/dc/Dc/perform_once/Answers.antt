use Rattle.std.proofs.Common.{sym, subst}
use Rattle.record_key.specs.Lent.{op_lent}
use Rattle.dc_core.specs.DcView.{DcView}
use Rattle.dc_core.specs.Seen.{seen}
use Rattle.dc_core.specs.Serves.{MayPerform}
use Rattle.dc_core.proofs.Asked.{keeps_asked}
use Rattle.dc_core.proofs.dc.Dc.perform_once.Goals as goal

pub invariant_of-self-in-Performed : goal.invariant_of-self-in-Performed
invariant_of-self-in-Performed g c =
    keeps_asked (seen c.self.inside) c.args.number (op_lent c.args.op.now) c.perform.new.self c.self.invariant
    (g.S.AnswerSink.told c.perform.new.sink) c.with-self-inside.result.list.items (subst (λ (w : DcView). MayPerform w c.args.number (op_lent c.args.op.now))
    (sym c.self.view_is) c.requires.may) c.kept.ensures
    (record { done = rw c.in-Performed.is at c.in_ok-perform.ensures.done; rest = c.perform.ensures.rest })
    c.with-self-inside.ensures
