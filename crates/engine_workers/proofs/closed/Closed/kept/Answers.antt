use Rattle.std.proofs.Common.{List, refl, subst}
use Rattle.node_world.specs.node_laws.proofs.Invariant.Promised.{promised}
use Rattle.node_world.specs.node_laws.specs.Node.{NodeView, dc_side}
use Rattle.engine_sessions.specs.engine_history.specs.Ending.{EndsWith, IsRowsOf, LeavesNode}
use Rattle.engine_sessions.specs.engine_history.specs.declared.step.Step.{Step}
use Rattle.engine_workers.specs.Closing.{ClosedView}
use Rattle.engine_sessions.specs.engine_history.specs.Steps.{RunsFrom}
use Rattle.engine_workers.proofs.closed.Closed.kept.Goals as goal

pub returns-clause-run : goal.returns-clause-run
returns-clause-run g c =
    subst (λ (v : ClosedView). RunsFrom g.J.Naming.start v.steps) c.self.view_is
    (subst (λ (es : List Step). RunsFrom g.J.Naming.start es) (λ i. (c.deref.ensures i).history) c.is_run.ensures)

pub returns-clause-rows : goal.returns-clause-rows
returns-clause-rows g c =
    let left = c.self.invariant.leaves in
    subst (λ (v : ClosedView). EndsWith g.J.Naming.start v.steps v.rows) c.self.view_is
    (record {
      dc = dc_side left.node;
      run = record { node = left.node; runs = left.runs; dc_is = refl };
      rows_are =
          subst (λ (w : NodeView). IsRowsOf (dc_side w) c.self.inside.left.value.rows) left.left_is c.self.invariant.rows_are;
    })

pub returns-clause-left : goal.returns-clause-left
returns-clause-left g c =
    subst (λ (v : ClosedView). LeavesNode g.J.Naming.start v.steps v.node) c.self.view_is c.self.invariant.leaves

pub returns-clause-promised : goal.returns-clause-promised
returns-clause-promised g c w runs = promised w runs.kept
