use Rattle.std.proofs.Common.{◌++◌, ◌∷◌, [], List, ap, ◌∙◌}
use Rattle.engine_guarded.specs.Callers.{CallerView}
use Rattle.engine_guarded.specs.engine_history.specs.Commands.{commands}
use Rattle.engine_guarded.specs.engine_history.specs.node_laws.specs.declared.event.Event.{Event}
use Rattle.engine_guarded.specs.engine_history.specs.node_laws.specs.declared.event.Event.TheVariants as event
use Rattle.engine_monitor.proofs.engine.Engine.crash_tc.Goals as goal

pub returns : goal.returns
returns g c =
    let w = c.crash_tc.ensures in
    let m = w.commanded in
    let e = event.CrashTc w.frames w.bytes in
    let given = m.given ∙ ap (λ (es : List Event). es ++ e ∷ []) c.self.view_is in
    record {
      frames = w.frames;
      bytes = w.bytes;
      given = given;
      out = c.crash_tc.new.out;
      before = c.held.inside.guarded.steps;
      entered = record {
        entry = c.shown.ensures.entry;
        shown = c.shown.ensures.shown;
        steps = c.shown.ensures.steps_are ∙ ap (λ (v : CallerView). v.steps) m.own_is ∙ m.steps;
        after = ap commands c.shown.ensures.steps_are ∙ given;
      };
      node = c.held.inside.guarded.node;
      passes = c.kept.ensures.passes;
      leaves = w.leaves;
    }
