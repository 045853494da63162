use Rattle.std.proofs.Common.{arith}
use Rattle.engine_guarded.proofs.Lows.{low_stays}
use Rattle.engine_guarded.proofs.stepping.stepped.Goals as goal

pub returns-clause-stable : goal.returns-clause-stable
returns-clause-stable g c =
    let within = low_stays c.args.world.now c.step_into.new.self c.args.low.now c.args.event.now c.step_into.new.out
    c.kept.ensures.kept c.requires.stable c.step_into.ensures in
    omega (arith, c.max.ensures, c.low_of.ensures, within)
