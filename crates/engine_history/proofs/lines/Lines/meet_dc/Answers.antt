use Rattle.std.proofs.Common.{rules, List, sym, ap, ◌∙◌, subst}
use Rattle.engine_history.specs.declared.step.Step.{Step}
use Rattle.engine_history.specs.Kept.{IsInRun, is_dc}
use Rattle.engine_history.specs.Slots.{Slot, last_of, steps}
use Rattle.engine_history.specs.Steps.{DcState, GivesDc}
use Rattle.engine_history.specs.Views.{View}
use Rattle.engine_history.proofs.Entering.{last_seen, lines_in_run, sees_all}
use Rattle.engine_history.proofs.lines.Lines.meet_dc.Goals as goal

pub invariant_of-self : goal.invariant_of-self
invariant_of-self g c =
    let J = g.J.Naming in
    let s = c.self.inside in
    let k = c.self.invariant in record {
      shown = k.shown;
      last = k.last;
      asked_are = k.asked_are;
      given_are = k.given_are;
      starts = k.starts;
      gives_tc = k.gives_tc;
      gives_dc = k.gives_dc;
      tc_name = k.tc_name;
      dc_name = search rules;
      tc_sees = k.tc_sees;
      dc_sees =
          sees_all is_dc c.meet.new.self.steps (steps s.tokens.items)
          (sym (ap (λ (v : View). v.steps) c.meet.ensures.cursor_end
          ∙ last_seen J.start J.entries J.names s.tokens.items s.asked.items s.given.items s.tc s.dc k c.last_of-last.result
          (c.last_of-last.ensures ∙ ap (λ (xs : List Slot). last_of xs) c.deref.ensures.value)));
    }

pub returns-clause-run : goal.returns-clause-run
returns-clause-run g c =
    let J = g.J.Naming in
    let s = c.self.inside in
    let state : DcState = record { side = c.args.side.now; given = c.args.given } in
    subst (λ (es : List Step). IsInRun g.J.Naming.start es c.args.side.now) c.self.view_is
    (lines_in_run J.start J.entries J.names s.tokens.items s.asked.items s.given.items s.tc s.dc state c.self.invariant
    (subst (λ (v : View). GivesDc g.J.Naming.start v.steps state) (sym c.meet.ensures.same) c.requires.gives))
