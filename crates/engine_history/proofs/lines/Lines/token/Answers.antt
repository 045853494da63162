use Rattle.std.proofs.Common.{◌≡◌, List, Some, None, ap, sym, ◌∙◌, subst, slice_get}
use Rattle.std.proofs.lemmas.Option.{slice_get-map}
use Rattle.std.specs.Prelude.{option_map}
use Rattle.node_sides.specs.dc_core.proofs.Walks.{all_get}
use Rattle.engine_history.specs.declared.step.Step.{Step}
use Rattle.engine_history.specs.Slots.{Slot, Shown, step_at}
use Rattle.engine_history.proofs.Entering.{on_some, on_none}
use Rattle.engine_history.proofs.lines.Lines.token.Goals as goal

pub returns-clause-shown : goal.returns-clause-shown
returns-clause-shown g c =
    let s = c.self.inside in
    let at = c.token_at.ensures ∙ ap (λ (ps : List Slot). slice_get ps c.args.place) c.deref.ensures.value in
    on_some c.token_at.result
    (λ p is. all_get (Shown g.J.Naming.entries) s.tokens.items c.args.place p c.self.invariant.shown (sym at ∙ is))

pub returns-clause-step : goal.returns-clause-step
returns-clause-step g c =
    let s = c.self.inside in
    let at = c.token_at.ensures ∙ ap (λ (ps : List Slot). slice_get ps c.args.place) c.deref.ensures.value in
    on_some c.token_at.result
    (λ p is. subst (λ (es : List Step). slice_get es c.args.place ≡ Some p.value.step.value) c.self.view_is
    (slice_get-map step_at s.tokens.items c.args.place ∙ ap (option_map step_at) (sym at ∙ is)))

pub returns-clause-none : goal.returns-clause-none
returns-clause-none g c =
    let s = c.self.inside in
    let at = c.token_at.ensures ∙ ap (λ (ps : List Slot). slice_get ps c.args.place) c.deref.ensures.value in
    on_none c.token_at.result
    (λ is. subst (λ (es : List Step). slice_get es c.args.place ≡ None) c.self.view_is
    (slice_get-map step_at s.tokens.items c.args.place ∙ ap (option_map step_at) (sym at ∙ is)))
