use Rattle.std.proofs.Common.{subst}
use Rattle.engine_history.specs.Steps.{RunsFrom}
use Rattle.engine_history.proofs.Entering.{lines_run}
use Rattle.engine_history.proofs.lines.Lines.is_run.Goals as goal

pub returns : goal.returns
returns g c =
    let s = c.self.inside in
    subst (RunsFrom g.J.Naming.start) c.self.view_is
    (lines_run g.J.Naming.start g.J.Naming.entries g.J.Naming.names s.tokens.items s.asked.items s.given.items s.tc s.dc
    c.self.invariant)
