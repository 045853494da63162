-- How far the log was stable, as the entries show.
use Rattle.std.proofs.Common.{◌≡◌, ◌≤◌, ◌<◌, ℕ, max, Bool, true, false, ltb, List, [], refl, subst, sym, ◌∙◌, inl, arith}
use Rattle.std.proofs.lemmas.Bool.{ltb-true, ltb-false}
use Rattle.boxcar.specs.Table.{Shelves}
use Rattle.engine_guarded.specs.Running.{PassesFrom}
use Rattle.engine_guarded.specs.Slots.{IsShownBy, Shown, Slot, seen}
use Rattle.engine_guarded.specs.engine_history.specs.Steps.{Start, node_at}
use Rattle.engine_guarded.specs.engine_history.specs.declared.step.Step.{Step}
use Rattle.engine_guarded.specs.engine_history.specs.node_laws.specs.Node.{NodeView}
use Rattle.engine_monitor.specs.Sessions.{WasStable}

-- where the first entry stands
pub stable_first : (start : Start) (entries : Shelves) (first : Slot) → Shown entries first → seen first ≡ []
    → WasStable start entries 0
stable_first start entries first shown empty = record {
  entry = first;
  shown = shown;
  node = node_at start;
  passes = subst (λ (es : List Step). PassesFrom start es (node_at start)) (sym empty) (inl refl);
  up_to = omega arith;
}

-- where a session has seen all steps
pub stable_now : (start : Start) (entries : Shelves) (own es : List Step) (node : NodeView) (end : ℕ) → IsShownBy entries own
    → own ≡ es → PassesFrom start es node → end ≡ node.tc.stable → WasStable start entries end
stable_now start entries own es node end by same passes is = record {
  entry = by.entry;
  shown = by.shown;
  node = node;
  passes = subst (λ (steps : List Step). PassesFrom start steps node) (sym (by.steps_are ∙ same)) passes;
  up_to = omega arith;
}

pub stable_less : (start : Start) (entries : Shelves) (n m : ℕ) → m ≤ n → WasStable start entries n → WasStable start entries m
stable_less start entries n m less was = record {
  entry = was.entry;
  shown = was.shown;
  node = was.node;
  passes = was.passes;
  up_to = let h : n ≤ was.node.tc.stable = was.up_to in omega arith;
}

pub stable_max : (start : Start) (entries : Shelves) (n m : ℕ) → WasStable start entries n → WasStable start entries m
    → WasStable start entries (max n m)
stable_max start entries n m one other = at (ltb n m) refl
  where
    at : (b : Bool) → ltb n m ≡ b → WasStable start entries (max n m)
    at true is =
        let h : n < m = ltb-true n m is in
        let e : m ≡ max n m = omega arith in subst (WasStable start entries) e other
    at false is =
        let h : m ≤ n = ltb-false n m is in
        let e : n ≡ max n m = omega arith in subst (WasStable start entries) e one
