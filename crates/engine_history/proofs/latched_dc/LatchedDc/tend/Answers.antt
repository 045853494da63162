use Rattle.std.proofs.Common.{◌≡◌, None, ap, ◌∙◌, sym, subst}
use Rattle.node_sides.specs.node_laws.specs.declared.event.Event.{Event}
use Rattle.node_sides.specs.node_laws.specs.declared.event.Event.TheVariants as event
use Rattle.node_sides.specs.node_laws.specs.declared.event.Out.{Out}
use Rattle.engine_history.specs.declared.step.Step.{Step}
use Rattle.engine_history.specs.Adding.{AddsEntry}
use Rattle.engine_history.specs.Latched.{DcFound}
use Rattle.engine_history.specs.Kept.{EntersDc, is_dc}
use Rattle.engine_history.specs.Steps.{DcState}
use Rattle.engine_history.specs.Views.{View}
use Rattle.engine_history.proofs.Adding.{adds}
use Rattle.engine_history.proofs.Tending.{tending_enters}
use Rattle.engine_history.proofs.latched_dc.LatchedDc.tend.Goals as goal

-- the step of a tending, which sends nothing
abbrev tends : Out → Event → Step
tends o e = record { caller = None; event = e; out = o; sent = None; given = None }

-- its event and what it came to are kept as they are
is_tending : (o p : Out) (e : Event) (x y : Step) → y ≡ x → x ≡ tends p e → e ≡ event.Tend → p ≡ o
    → y ≡ tends o event.Tend
is_tending o p e x y boxed made kept same = boxed ∙ made ∙ (λ i. tends (same i) (kept i))

pub enter_dc-requires-clause-enters : goal.enter_dc-requires-clause-enters
enter_dc-requires-clause-enters g c =
    let s = c.self.inside in let n : DcState = record { side = c.tended-out.new.side; given = s.given } in (
      n,
      subst (λ (x : Step). EntersDc g.J.Naming.start s.cursor.steps x n) (sym (is_tending _ _ _ _ _ c.boxed-step.ensures c.new.ensures c.of-event.ensures c.of-out.ensures))
          (tending_enters g.J.Naming.start s.cursor.steps s.side c.tended-out.new.side s.given c.tended-out.result
          c.self.invariant.gives c.tended-out.ensures.leads),
    )

pub invariant_of-self-2 : goal.invariant_of-self-2
invariant_of-self-2 g c =
    let s = c.self.inside in let n : DcState = record { side = c.tended-out.new.side; given = s.given } in
    let enters = subst (λ (x : Step). EntersDc g.J.Naming.start s.cursor.steps x n) (sym (is_tending _ _ _ _ _ c.boxed-step.ensures c.new.ensures c.of-event.ensures c.of-out.ensures))
    (tending_enters g.J.Naming.start s.cursor.steps s.side c.tended-out.new.side s.given c.tended-out.result c.self.invariant.gives
    c.tended-out.ensures.leads) in
    record {
      name = ap (λ (v : View). v.name) c.enter_dc.ensures.cursor ∙ c.self.invariant.name;
      gives = c.enter_dc.ensures.gives n enters;
    }

pub returns-clause-added : goal.returns-clause-added
returns-clause-added g c =
    let s = c.self.inside in let said = c.enter_dc.ensures in
    subst (λ (f : DcFound). AddsEntry is_dc f.steps c.enter_dc.result c.enter_dc.new.cursor.steps) c.self.view_is
    (adds is_dc s.cursor.steps _ c.enter_dc.new.cursor.steps c.enter_dc.result _ said.sees said.value said.before
    (ap (λ (x : View). x.steps) said.cursor ∙ said.entered))
