use Rattle.engine_history.specs.Steps.{DcState}
use Rattle.engine_history.proofs.Along.{dc_on}
use Rattle.engine_history.proofs.latched_dc.LatchedDc.into_side.Goals as goal

pub returns-clause-gives : goal.returns-clause-gives
returns-clause-gives g c =
    let s = c.self.inside in (
      s.given,
      dc_on g.J.Naming.start s.cursor.steps c.args.history.now (record { side = s.side; given = s.given })
          c.look_dc.ensures.sees c.self.invariant.gives,
    )
