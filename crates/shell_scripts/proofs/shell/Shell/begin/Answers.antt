use Rattle.std.proofs.Common.{rules, sym, subst}
use Rattle.node_world.specs.node_laws.specs.declared.event.Event.TheVariants as event
use Rattle.node_world.specs.node_laws.specs.declared.event.Out.TheVariants as out
use Rattle.node_world.specs.node_laws.specs.Node.{NodeView, StepsTo}
use Rattle.node_world.specs.node_laws.specs.Stepping.{IsStep}
use Rattle.shell_scripts.proofs.Telling.{refused_step}
use Rattle.shell_scripts.proofs.shell.Shell.begin.Goals as goal

pub returns-in-Err : goal.returns-in-Err
returns-in-Err g c =
    let w : NodeView = c.args.self.now.world in
    let P : NodeView → Type 0 = IsStep w event.Begin (out.Refused c.in-Err.refusal) in
    let step : StepsTo w event.Begin (out.Refused c.in-Err.refusal) w = search rules in (
      subst P (sym c.make_way.ensures.world) (refused_step w c.in-Err.refusal c.kept.ensures.kept step),
      c.make_way.ensures.labels,
    )
