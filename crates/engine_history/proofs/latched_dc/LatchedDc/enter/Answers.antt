use Rattle.std.proofs.Common.{ap, ◌∙◌, subst}
use Rattle.engine_history.specs.Adding.{AddsEntry}
use Rattle.engine_history.specs.Latched.{DcFound}
use Rattle.engine_history.specs.Kept.{is_dc}
use Rattle.engine_history.specs.Views.{View}
use Rattle.engine_history.proofs.Adding.{adds}
use Rattle.engine_history.proofs.Sitting.{dc_goes_alone}
use Rattle.engine_history.proofs.latched_dc.LatchedDc.enter.Goals as goal

pub enter_dc-requires-clause-enters : goal.enter_dc-requires-clause-enters
enter_dc-requires-clause-enters g c =
    let s = c.self.inside in let e = c.stepped-step.ensures in (
      _,
      dc_goes_alone g.J.Naming.start s.cursor.steps s.side c.stepped-step.new.side s.given c.stepped-step.result.1
          c.stepped-step.result.0.value c.args.event c.self.invariant.gives e.event c.requires.alone e.leads e.given e.none,
    )

pub invariant_of-self : goal.invariant_of-self
invariant_of-self g c =
    let s = c.self.inside in let e = c.stepped-step.ensures in
    let enters = dc_goes_alone g.J.Naming.start s.cursor.steps s.side c.stepped-step.new.side s.given c.stepped-step.result.1
    c.stepped-step.result.0.value c.args.event c.self.invariant.gives e.event c.requires.alone e.leads e.given e.none in
    record {
      name = ap (λ (v : View). v.name) c.enter_dc.ensures.cursor ∙ c.self.invariant.name;
      gives = c.enter_dc.ensures.gives _ enters;
    }

pub returns-clause-added : goal.returns-clause-added
returns-clause-added g c =
    let s = c.self.inside in let said = c.enter_dc.ensures in
    subst (λ (f : DcFound). AddsEntry is_dc f.steps c.enter_dc.result c.enter_dc.new.cursor.steps) c.self.view_is
    (adds is_dc s.cursor.steps _ c.enter_dc.new.cursor.steps c.enter_dc.result _ said.sees said.value said.before
    (ap (λ (x : View). x.steps) said.cursor ∙ said.entered))
