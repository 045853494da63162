use Rattle.engine_history.specs.Steps.{TcState}
use Rattle.engine_history.proofs.Along.{tc_on}
use Rattle.engine_history.proofs.latched_tc.LatchedTc.into_side.Goals as goal

pub returns-clause-gives : goal.returns-clause-gives
returns-clause-gives g c =
    let s = c.self.inside in (
      s.sent,
      tc_on g.J.Naming.start s.cursor.steps c.args.history.now (record { side = s.side; sent = s.sent })
          c.look_tc.ensures.sees c.self.invariant.gives,
    )
