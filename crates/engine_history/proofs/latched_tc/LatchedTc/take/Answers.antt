use Rattle.std.specs.Option.{option_copied}
use Rattle.std.proofs.Common.{◌≡◌, ◌+◌, ap, ◌∙◌, subst, sym, Some, refl, inl, le_trans}
use Rattle.node_sides.specs.node_laws.specs.declared.event.Event.{Event}
use Rattle.node_sides.specs.node_laws.specs.declared.event.Event.TheVariants as event
use Rattle.engine_history.specs.Adding.{AddsEntry}
use Rattle.engine_history.specs.Latched.{TcFound}
use Rattle.engine_history.specs.Marking.{IsLowOf}
use Rattle.engine_history.specs.declared.entry.Entry.{Entry}
use Rattle.engine_history.specs.Kept.{IsSentBy}
use Rattle.engine_history.specs.Steps.{is_tc, replies}
use Rattle.engine_history.specs.Views.{View, Sees}
use Rattle.engine_history.proofs.Adding.{adds, sees_on, reply_sent}
use Rattle.engine_history.proofs.Marking.{seat_on, seat_marked}
use Rattle.engine_history.proofs.Stable.{next_rises}
use Rattle.engine_history.proofs.Sitting.{tc_goes_with, tc_kept_on}
use Rattle.engine_history.proofs.latched_tc.LatchedTc.take.Goals as goal

pub invariant_of-self : goal.invariant_of-self
invariant_of-self g c =
    let s = c.self.inside in let look = c.look_reply.ensures in
    tc_kept_on g.J.Naming.start g.J.Naming.names g.J.Naming.marks s.cursor c.look_reply.new.cursor _ s.seat c.self.invariant
    (ap (λ (x : View). x.name) look.cursor)
    (subst (λ (x : View). Sees is_tc s.cursor.steps x.steps) (sym look.cursor) look.sees)

pub enter_tc-requires-clause-enters : goal.enter_tc-requires-clause-enters
enter_tc-requires-clause-enters g c =
    let s = c.self.inside in let look = c.look_reply.ensures in let e = c.taken-step.ensures in
    let v = c.look_reply.new.cursor in
    let by = subst (λ (x : View). IsSentBy (replies x.steps) c.args.number c.in_ok-given.given.value.step.value.given)
    (sym look.cursor) c.in_ok-given.ensures.given in
    let has : c.in_ok-given.given.value.step.value.given ≡ Some c.in-Some.reply.now =
    ap (λ (x : Entry). x.step.value.given) (sym c.value.ensures) ∙ sym c.given-2.ensures ∙ ap option_copied c.in-Some.is in (
      _,
      tc_goes_with g.J.Naming.start s.cursor.steps v.steps s.side c.taken-step.new.side s.sent s.sent
          c.taken-step.result.value c.args.number _ c.in-Some.reply.now
          (subst (λ (x : View). Sees is_tc s.cursor.steps x.steps) (sym look.cursor) look.sees) c.self.invariant.gives
          e.event by has (e.leads (Some (s.sent + 1))) (e.sent s.sent) e.none,
    )

pub mark-requires-clause-stable : goal.mark-requires-clause-stable
mark-requires-clause-stable g c =
    let s = c.self.inside in let look = c.look_reply.ensures in let e = c.taken-step.ensures in
    let v = c.look_reply.new.cursor in
    let by = subst (λ (x : View). IsSentBy (replies x.steps) c.args.number c.in_ok-given.given.value.step.value.given)
    (sym look.cursor) c.in_ok-given.ensures.given in
    let has : c.in_ok-given.given.value.step.value.given ≡ Some c.in-Some.reply.now =
    ap (λ (x : Entry). x.step.value.given) (sym c.value.ensures) ∙ sym c.given-2.ensures ∙ ap option_copied c.in-Some.is in
    le_trans c.self.invariant.seated.stable_so
    (next_rises s.side c.taken-step.new.side s.sent (event.Reply c.args.number) (Some c.in-Some.reply.now)
    c.taken-step.result.value.out c.taken-step.result.value.sent (replies v.steps) e.kept refl
    (by.found ∙ sym by.is ∙ has) (e.leads (Some (s.sent + 1))))

pub mark-requires-clause-low : goal.mark-requires-clause-low
mark-requires-clause-low g c =
    let e = c.taken-step.ensures in
    subst (λ (x : Event). IsLowOf x c.taken-step.result.value.out c.taken-step.new.side) (sym e.event) (inl refl)

pub invariant_of-self-2 : goal.invariant_of-self-2
invariant_of-self-2 g c =
    let s = c.self.inside in let look = c.look_reply.ensures in let e = c.taken-step.ensures in
    let v = c.look_reply.new.cursor in
    let by = subst (λ (x : View). IsSentBy (replies x.steps) c.args.number c.in_ok-given.given.value.step.value.given)
    (sym look.cursor) c.in_ok-given.ensures.given in
    let has : c.in_ok-given.given.value.step.value.given ≡ Some c.in-Some.reply.now =
    ap (λ (x : Entry). x.step.value.given) (sym c.value.ensures) ∙ sym c.given-2.ensures ∙ ap option_copied c.in-Some.is in
    let enters = tc_goes_with g.J.Naming.start s.cursor.steps v.steps s.side c.taken-step.new.side s.sent s.sent
    c.taken-step.result.value c.args.number _ c.in-Some.reply.now
    (subst (λ (x : View). Sees is_tc s.cursor.steps x.steps) (sym look.cursor) look.sees) c.self.invariant.gives
    e.event by has (e.leads (Some (s.sent + 1))) (e.sent s.sent) e.none in
    let said = c.enter_tc.ensures in let marked = c.mark.ensures in
    record {
      name = ap (λ (x : View). x.name) c.enter_tc.ensures.cursor ∙ ap (λ (x : View). x.name) look.cursor
          ∙ c.self.invariant.name;
      gives = c.enter_tc.ensures.gives _ enters;
      seated =
          seat_marked g.J.Naming.marks v.steps _ c.enter_tc.new.cursor.steps c.taken-step.result.value
          s.side.tc.stable c.taken-step.new.side.tc.stable s.seat c.mark.new.seat
          (seat_on g.J.Naming.marks s.cursor.steps v.steps s.side.tc.stable s.seat c.self.invariant.seated
          (subst (λ (x : View). Sees is_tc s.cursor.steps x.steps) (sym look.cursor) look.sees))
          said.sees (ap (λ (x : View). x.steps) said.cursor ∙ said.entered) marked.seat.0 marked.seat.1 marked.stable
          marked.low;
    }

pub returns-clause-added : goal.returns-clause-added
returns-clause-added g c =
    let s = c.self.inside in let look = c.look_reply.ensures in let said = c.enter_tc.ensures in
    let v = c.look_reply.new.cursor in
    let sees : Sees is_tc s.cursor.steps v.steps =
    subst (λ (x : View). Sees is_tc s.cursor.steps x.steps) (sym look.cursor) look.sees in
    subst (λ (f : TcFound). AddsEntry is_tc f.steps c.enter_tc.result c.enter_tc.new.cursor.steps) c.self.view_is
    (adds is_tc s.cursor.steps _ c.enter_tc.new.cursor.steps c.enter_tc.result _
    (sees_on is_tc s.cursor.steps v.steps _ sees said.sees) said.value said.before
    (ap (λ (x : View). x.steps) said.cursor ∙ said.entered))

pub returns-clause-sent : goal.returns-clause-sent
returns-clause-sent g c =
    let look = c.look_reply.ensures in let said = c.enter_tc.ensures in let v = c.look_reply.new.cursor in
    reply_sent is_tc v.steps c.args.number _ c.enter_tc.result
    (subst (λ (x : View). IsSentBy (replies x.steps) c.args.number c.in_ok-given.given.value.step.value.given)
    (sym look.cursor) c.in_ok-given.ensures.given)
    (subst (Sees is_tc v.steps) (sym said.before) said.sees)
