use Rattle.std.proofs.Common.{refl, ap, ◌∙◌, subst, sym}
use Rattle.node_sides.specs.node_laws.specs.declared.event.Event.TheVariants as event
use Rattle.engine_history.specs.Adding.{AddsEntry}
use Rattle.engine_history.specs.Latched.{DcFound}
use Rattle.engine_history.specs.Kept.{is_dc}
use Rattle.engine_history.specs.Views.{View, Sees}
use Rattle.engine_history.proofs.Adding.{adds, sees_on}
use Rattle.engine_history.proofs.Along.{dc_on}
use Rattle.engine_history.proofs.Sitting.{dc_goes_alone, in_node}
use Rattle.engine_history.proofs.latched_dc.LatchedDc.crash.Goals as goal

pub stepped-step-requires-clause-may : goal.stepped-step-requires-clause-may
stepped-step-requires-clause-may g c =
    in_node g.J.Naming.start _ c.self.inside.side (event.CrashDc 0 0) refl c.look_dc.ensures.run

pub command_dc-requires-clause-enters : goal.command_dc-requires-clause-enters
command_dc-requires-clause-enters g c =
    let s = c.self.inside in let e = c.stepped-step.ensures in let v = c.look_dc.new.cursor in
    let sees : Sees is_dc s.cursor.steps v.steps =
    subst (λ (x : View). Sees is_dc s.cursor.steps x.steps) (sym c.look_dc.ensures.cursor) c.look_dc.ensures.sees in (
      _,
      dc_goes_alone g.J.Naming.start v.steps s.side c.stepped-step.new.side s.given c.stepped-step.result.1
          c.stepped-step.result.0.value (event.CrashDc 0 0) (dc_on g.J.Naming.start s.cursor.steps v.steps _ sees c.self.invariant.gives) e.event
          refl e.leads e.given e.none,
    )

pub invariant_of-self : goal.invariant_of-self
invariant_of-self g c =
    let s = c.self.inside in let e = c.stepped-step.ensures in let v = c.look_dc.new.cursor in
    let sees : Sees is_dc s.cursor.steps v.steps =
    subst (λ (x : View). Sees is_dc s.cursor.steps x.steps) (sym c.look_dc.ensures.cursor) c.look_dc.ensures.sees in
    let enters = dc_goes_alone g.J.Naming.start v.steps s.side c.stepped-step.new.side s.given c.stepped-step.result.1
    c.stepped-step.result.0.value (event.CrashDc 0 0) (dc_on g.J.Naming.start s.cursor.steps v.steps _ sees c.self.invariant.gives) e.event
    refl e.leads e.given e.none in
    record {
      name = ap (λ (x : View). x.name) c.command_dc.ensures.cursor ∙ ap (λ (x : View). x.name) c.look_dc.ensures.cursor
          ∙ c.self.invariant.name;
      gives = c.command_dc.ensures.gives _ enters;
    }

pub returns-clause-added : goal.returns-clause-added
returns-clause-added g c =
    let s = c.self.inside in let said = c.command_dc.ensures in
    subst (λ (f : DcFound). AddsEntry is_dc f.steps c.command_dc.result c.command_dc.new.cursor.steps) c.self.view_is
    (adds is_dc s.cursor.steps _ c.command_dc.new.cursor.steps c.command_dc.result _
    (sees_on is_dc s.cursor.steps c.look_dc.new.cursor.steps _
    (subst (λ (x : View). Sees is_dc s.cursor.steps x.steps) (sym c.look_dc.ensures.cursor) c.look_dc.ensures.sees)
    said.sees) said.value said.before
    (ap (λ (x : View). x.steps) said.cursor ∙ said.entered))
