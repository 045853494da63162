use Rattle.std.proofs.Common.{ap, sym, ◌∙◌, subst, le_trans}
use Rattle.node_sides.specs.node_laws.specs.declared.event.Event.{Event}
use Rattle.engine_history.specs.Adding.{AddsEntry}
use Rattle.engine_history.specs.Latched.{TcFound}
use Rattle.engine_history.specs.Marking.{IsLowOf}
use Rattle.engine_history.specs.Steps.{is_tc}
use Rattle.engine_history.specs.Views.{View}
use Rattle.engine_history.proofs.Adding.{adds}
use Rattle.engine_history.proofs.Marking.{low_is, seat_marked}
use Rattle.engine_history.proofs.Stable.{alone_rises}
use Rattle.engine_history.proofs.Sitting.{tc_goes_alone}
use Rattle.engine_history.proofs.latched_tc.LatchedTc.call.Goals as goal

pub call-requires-clause-enters : goal.call-requires-clause-enters
call-requires-clause-enters g c =
    let s = c.self.inside in let e = c.stepped-step.ensures in (
      _,
      tc_goes_alone g.J.Naming.start s.cursor.steps s.side c.stepped-step.new.side s.sent c.stepped-step.result.1
          c.stepped-step.result.0.value c.args.event c.self.invariant.gives e.event c.requires.plain e.leads e.sent e.none,
    )

pub mark-requires-clause-stable : goal.mark-requires-clause-stable
mark-requires-clause-stable g c =
    let s = c.self.inside in let e = c.stepped-step.ensures in
    le_trans c.self.invariant.seated.stable_so
    (alone_rises s.side c.stepped-step.new.side s.sent c.args.event c.stepped-step.result.0.value.out
    c.stepped-step.result.0.value.sent e.kept c.requires.tc e.leads)

pub mark-requires-clause-low : goal.mark-requires-clause-low
mark-requires-clause-low g c =
    let s = c.self.inside in let e = c.stepped-step.ensures in
    subst (λ (x : Event). IsLowOf x c.stepped-step.result.0.value.out c.stepped-step.new.side) (sym e.event)
    (low_is s.side c.stepped-step.new.side s.sent c.args.event c.stepped-step.result.0.value.out
    c.stepped-step.result.0.value.sent e.leads)

pub invariant_of-self : goal.invariant_of-self
invariant_of-self g c =
    let s = c.self.inside in let e = c.stepped-step.ensures in
    let said = c.call.ensures in let marked = c.mark.ensures in
    let enters = tc_goes_alone g.J.Naming.start s.cursor.steps s.side c.stepped-step.new.side s.sent c.stepped-step.result.1
    c.stepped-step.result.0.value c.args.event c.self.invariant.gives e.event c.requires.plain e.leads e.sent e.none in
    record {
      name = ap (λ (v : View). v.name) said.cursor ∙ c.self.invariant.name;
      gives = said.gives _ enters;
      seated =
          seat_marked g.J.Naming.marks s.cursor.steps _ c.call.new.cursor.steps c.stepped-step.result.0.value
          s.side.tc.stable c.stepped-step.new.side.tc.stable s.seat c.mark.new.seat c.self.invariant.seated said.sees
          (ap (λ (v : View). v.steps) said.cursor ∙ said.entered) marked.seat.0 marked.seat.1 marked.stable marked.low;
    }

pub returns-clause-added : goal.returns-clause-added
returns-clause-added g c =
    let said = c.call.ensures in
    subst (λ (f : TcFound). AddsEntry is_tc f.steps c.call.result c.call.new.cursor.steps) c.self.view_is
    (adds is_tc c.self.inside.cursor.steps _ c.call.new.cursor.steps c.call.result _ said.sees said.value said.before
    (ap (λ (v : View). v.steps) said.cursor ∙ said.entered))
