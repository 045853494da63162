use Rattle.std.specs.Option.{option_copied}
use Rattle.std.proofs.Common.{◌≡◌, ap, ◌∙◌, subst, sym}
use Rattle.engine_history.specs.declared.entry.Entry.{Entry}
use Rattle.node_sides.specs.node_laws.specs.Halves.{IsSpelledIf, IsInNode}
use Rattle.node_sides.specs.node_laws.specs.declared.event.Event.TheVariants as event
use Rattle.engine_history.specs.Adding.{AddsEntry}
use Rattle.engine_history.specs.Latched.{DcFound}
use Rattle.engine_history.specs.Kept.{IsSentBy, is_dc}
use Rattle.engine_history.specs.Steps.{requests}
use Rattle.engine_history.specs.Views.{View, Sees}
use Rattle.engine_history.proofs.Adding.{adds, sees_on, request_sent}
use Rattle.engine_history.proofs.Sitting.{dc_goes_with, dc_kept_on, in_node_with}
use Rattle.engine_history.proofs.latched_dc.LatchedDc.serve.Goals as goal

pub invariant_of-self : goal.invariant_of-self
invariant_of-self g c =
    let s = c.self.inside in let look = c.look_request.ensures in
    dc_kept_on g.J.Naming.start g.J.Naming.names s.cursor c.look_request.new.cursor _ c.self.invariant
    (ap (λ (x : View). x.name) look.cursor)
    (subst (λ (x : View). Sees is_dc s.cursor.steps x.steps) (sym look.cursor) look.sees)

pub stepped-step-requires-clause-may : goal.stepped-step-requires-clause-may
stepped-step-requires-clause-may g c =
    let s = c.self.inside in
    let found : c.in_ok-sent.sent.value.step.value.sent ≡ option_copied c.sent-request.result =
    ap (λ (x : Entry). x.step.value.sent) (sym c.value.ensures) ∙ sym c.sent-request.ensures in (
      subst (IsInNode s.side (event.Request c.args.number)) found
          (in_node_with g.J.Naming.start _ s.side c.args.number _ c.look_request.ensures.run c.in_ok-sent.ensures.sent),
      subst IsSpelledIf found c.in_ok-sent.ensures.spelled,
    )

pub enter_dc-requires-clause-enters : goal.enter_dc-requires-clause-enters
enter_dc-requires-clause-enters g c =
    let s = c.self.inside in let look = c.look_request.ensures in let e = c.stepped-step.ensures in
    let v = c.look_request.new.cursor in
    let found : c.in_ok-sent.sent.value.step.value.sent ≡ option_copied c.sent-request.result =
    ap (λ (x : Entry). x.step.value.sent) (sym c.value.ensures) ∙ sym c.sent-request.ensures in
    let by : IsSentBy (requests v.steps) c.args.number (option_copied c.sent-request.result) =
    subst (IsSentBy (requests v.steps) c.args.number) found
    (subst (λ (x : View). IsSentBy (requests x.steps) c.args.number c.in_ok-sent.sent.value.step.value.sent)
    (sym look.cursor)
    c.in_ok-sent.ensures.sent) in (
      _,
      dc_goes_with g.J.Naming.start s.cursor.steps v.steps s.side c.stepped-step.new.side s.given c.stepped-step.result.1
          c.stepped-step.result.0.value c.args.number (option_copied c.sent-request.result)
          (subst (λ (x : View). Sees is_dc s.cursor.steps x.steps) (sym look.cursor) look.sees) c.self.invariant.gives
          e.event by e.leads e.given e.none,
    )

pub invariant_of-self-2 : goal.invariant_of-self-2
invariant_of-self-2 g c =
    let s = c.self.inside in let look = c.look_request.ensures in let e = c.stepped-step.ensures in
    let v = c.look_request.new.cursor in
    let found : c.in_ok-sent.sent.value.step.value.sent ≡ option_copied c.sent-request.result =
    ap (λ (x : Entry). x.step.value.sent) (sym c.value.ensures) ∙ sym c.sent-request.ensures in
    let by : IsSentBy (requests v.steps) c.args.number (option_copied c.sent-request.result) =
    subst (IsSentBy (requests v.steps) c.args.number) found
    (subst (λ (x : View). IsSentBy (requests x.steps) c.args.number c.in_ok-sent.sent.value.step.value.sent)
    (sym look.cursor)
    c.in_ok-sent.ensures.sent) in
    let enters = dc_goes_with g.J.Naming.start s.cursor.steps v.steps s.side c.stepped-step.new.side s.given c.stepped-step.result.1
    c.stepped-step.result.0.value c.args.number (option_copied c.sent-request.result)
    (subst (λ (x : View). Sees is_dc s.cursor.steps x.steps) (sym look.cursor) look.sees) c.self.invariant.gives
    e.event by e.leads e.given e.none in
    record {
      name = ap (λ (x : View). x.name) c.enter_dc.ensures.cursor ∙ ap (λ (x : View). x.name) look.cursor
          ∙ c.self.invariant.name;
      gives = c.enter_dc.ensures.gives _ enters;
    }

pub returns-clause-added : goal.returns-clause-added
returns-clause-added g c =
    let s = c.self.inside in let said = c.enter_dc.ensures in
    subst (λ (f : DcFound). AddsEntry is_dc f.steps c.enter_dc.result c.enter_dc.new.cursor.steps) c.self.view_is
    (adds is_dc s.cursor.steps _ c.enter_dc.new.cursor.steps c.enter_dc.result _
    (sees_on is_dc s.cursor.steps c.look_request.new.cursor.steps _
    (subst (λ (x : View). Sees is_dc s.cursor.steps x.steps) (sym c.look_request.ensures.cursor) c.look_request.ensures.sees)
    said.sees) said.value said.before
    (ap (λ (x : View). x.steps) said.cursor ∙ said.entered))

pub returns-clause-sent : goal.returns-clause-sent
returns-clause-sent g c =
    let look = c.look_request.ensures in let said = c.enter_dc.ensures in let v = c.look_request.new.cursor in
    request_sent is_dc v.steps c.args.number _ c.enter_dc.result
    (subst (λ (x : View). IsSentBy (requests x.steps) c.args.number c.in_ok-sent.sent.value.step.value.sent)
    (sym look.cursor) c.in_ok-sent.ensures.sent)
    (subst (Sees is_dc v.steps) (sym said.before) said.sees)
