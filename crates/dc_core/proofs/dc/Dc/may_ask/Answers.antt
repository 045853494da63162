use Rattle.dc_core.proofs.Owed.{owed}
use Rattle.dc_core.proofs.dc.Dc.may_ask.Goals as goal

pub returns-then-has_numbers-clause-owed : goal.returns-then-has_numbers-clause-owed
returns-then-has_numbers-clause-owed g c =
    λ yes. (
      c.has_numbers.ensures.0 c.if-has_numbers.true,
      owed c.args.self.now c.kept.ensures c.args.request.now (c.may_serve.ensures.0 yes),
    )
