use Rattle.std.proofs.Common.{refl}
use Rattle.engine_history.proofs.Tending.{nothing_tended}
use Rattle.engine_history.proofs.latched_dc.tended.Goals as goal

pub returns-clause-nothing : goal.returns-clause-nothing
returns-clause-nothing g c = nothing_tended c.args.side.now c.tend.new.self c.tend.new.out
    (record {
      gives = λ tc requests replies next brings. c.tend.ensures.calls tc requests replies;
      kept = c.tend.ensures.kept;
      spelled = tt;
      room = refl;
    })
