use Rattle.std.proofs.Common.{◌≡◌, ◌∙◌, ℕ, List, ap, sym, subst}
use Rattle.std.specs.List.{AllByRecursion}
use Rattle.engine_sessions.specs.engine_history.specs.Closing.{IsKeptBy}
use Rattle.engine_workers.specs.Closing.{ClosedView, IsCovered, seen_of}
use Rattle.engine_sessions.specs.engine_history.specs.declared.step.Step.{Step}
use Rattle.engine_sessions.specs.engine_history.specs.Steps.{TcState}
use Rattle.engine_sessions.specs.engine_history.proofs.Entering.{on_ok}
use Rattle.engine_sessions.specs.engine_history.proofs.Lists.{all_map}
use Rattle.engine_workers.proofs.engine.Engine.close.Goals as goal

pub returns-clause-kept : goal.returns-clause-kept
returns-clause-kept g c =
    let es = c.into_parts-published.result.1 in
    let tc = c.into_parts-published.result.2.state.side.tc.stable in
    let last = c.node_of_latched.new.history in
    let node = c.in_ok-node.node.value in
    let same : last ≡ es = c.node_of_latched.ensures.same ∙ c.review.ensures.same ∙ c.cover.ensures.same.0 in
    let stable : node.tc.stable ≡ tc =
    c.in_ok-node.ensures.stable ∙ ap (λ (s : TcState). s.side.tc.stable) c.cover.ensures.same.1 in
    let covered = subst (AllByRecursion (IsCovered es tc)) c.in_ok-states.ensures.states c.cover.ensures.covered in
    let kept = all_map seen_of (IsCovered es tc) c.args.sessions.items covered in
    let steps = subst (λ (xs : List Step). AllByRecursion (IsKeptBy xs tc) c.args.sessions.items) (sym same) kept in
    let all = subst (λ (n : ℕ). AllByRecursion (IsKeptBy last n) c.args.sessions.items) (sym stable) steps in
    on_ok c.new.result
    (λ closed is. subst (λ (v : ClosedView). AllByRecursion (IsKeptBy v.steps v.node.tc.stable) c.args.sessions.items)
    (sym is) all)
    c.new.ensures.closed
