use Rattle.std.proofs.lemmas.Bool.{leb-true}
use Rattle.engine_monitor.proofs.Marking.{stable_less}
use Rattle.engine_monitor.proofs.known.Known.reaches.Goals as goal

pub returns-clause-was : goal.returns-clause-was
returns-clause-was g c = λ is.
    stable_less g.J.Naming.start g.J.Naming.entries c.self.inside.stable c.args.number
    (leb-true c.args.number c.self.inside.stable is) c.self.invariant.was
