use Rattle.std.proofs.Common.{ap, sym, ◌∙◌, ℕ, List, [], subst}
use Rattle.engine_history.specs.Kept.{LinesKept}
use Rattle.engine_history.specs.Slots.{Slot}
use Rattle.engine_history.specs.Views.{View}
use Rattle.engine_history.proofs.Entering.{lines_none}
use Rattle.engine_history.proofs.lines.Lines.new.Goals as goal

abbrev nobody : ℕ → View
nobody name = record { name = name; steps = [] }

pub invariant_of-result : goal.invariant_of-result
invariant_of-result g c =
    let J = g.J.Naming in
    let kept = lines_none J.start J.entries J.names c.new-4.result c.new-5.result
    (c.new-4.ensures ∙ ap nobody c.requires.tc.0) (c.new-5.ensures ∙ ap nobody c.requires.dc.0) c.requires.start in
    subst (λ (w : List Slot × List Slot × List Slot).
    LinesKept g.J.Naming.start J.entries J.names w.0 w.1 w.2 c.new-4.result c.new-5.result)
    (λ i. (sym c.new.ensures.items i, sym c.new-2.ensures.items i, sym c.new-3.ensures.items i)) kept
