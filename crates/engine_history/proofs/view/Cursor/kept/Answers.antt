use Rattle.std.proofs.Common.{ap}
use Rattle.engine_history.specs.Views.{View}
use Rattle.engine_history.proofs.view.Cursor.kept.Goals as goal

pub returns : goal.returns
returns g c = record {
  last = c.self.inside.last;
  shown = c.self.invariant.shown;
  steps_are = ap (λ (v : View). v.steps) c.self.view_is;
}
