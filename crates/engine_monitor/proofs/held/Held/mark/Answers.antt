use Rattle.std.proofs.Common.{◌∙◌, ap, sym, subst}
use Rattle.engine_marks.specs.Seen.{Seen}
use Rattle.engine_monitor.proofs.Marking.{stable_max, stable_now}
use Rattle.engine_monitor.specs.Sessions.{HeldView, IsHeld, WasStable}
use Rattle.engine_monitor.proofs.held.Held.mark.Goals as goal

pub invariant_of-self-2 : goal.invariant_of-self-2
invariant_of-self-2 g c =
    let start = g.J.Naming.start in
    let entries = g.J.Naming.entries in
    let found = c.self.inside.guarded in
    let raised = c.raise_stable.ensures.raised in
    let all_seen = c.requires.seen ∙ sym (ap (λ (h : HeldView). h.found.steps) c.self.view_is) in
    let now =
    stable_now start entries c.args.caller.now.steps found.steps found.node c.in-Ok.end c.shown.ensures all_seen
    c.kept.ensures.passes c.in-Ok.ensures.end in
    subst (IsHeld start entries g.J.Naming.marks) (sym c.raise_low.ensures.raised) record {
      marks_are = ap (λ (s : Seen). s.marks) raised ∙ c.self.invariant.marks_are;
      raises = ap (λ (s : Seen). s.raises) raised ∙ c.self.invariant.raises;
      was =
          subst (WasStable start entries) (sym (ap (λ (s : Seen). s.stable) raised))
          (stable_max start entries c.self.inside.seat.stable c.in-Ok.end c.self.invariant.was now);
    }
