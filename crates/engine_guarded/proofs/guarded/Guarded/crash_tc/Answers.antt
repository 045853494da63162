use Rattle.std.specs.Prelude.{Result, Ok, Err, IfOk, OnErr}
use Rattle.std.specs.Result.{result_unwrap_or}
use Rattle.std.proofs.Common.{◌≡◌, ◌∙◌, ℕ, Bool, true, false, ap, sym, subst, true≢false}
use Rattle.record_key.specs.declared.refusal.Refusal.{Refusal}
use Rattle.engine_history.specs.node_laws.specs.Component.{LeavesBytes}
use Rattle.engine_history.specs.node_laws.specs.Node.{NodeView}
use Rattle.engine_history.specs.node_sides.specs.tc_core.specs.TcView.{TcView}
use Rattle.engine_guarded.proofs.guarded.Guarded.crash_tc.Goals as goal

-- what the crash is asked for, where the component runs
cut_of : (tc : TcView) (kept : ℕ) (up : Bool) (cut : Result (ℕ × ℕ) Refusal) (other : ℕ × ℕ)
    → IfOk cut (λ c. LeavesBytes tc kept c.0 c.1) → OnErr cut (up ≡ false) → up ≡ true
    → LeavesBytes tc kept (result_unwrap_or cut other).0 (result_unwrap_or cut other).1
cut_of tc kept up (Ok c) other leaves down runs = leaves
cut_of tc kept up (Err refusal) other leaves down runs = absurd (true≢false (sym runs ∙ down))

pub returns : goal.returns
returns g c =
    let kept = c.args.kept in
    let cut = c.cut_after.ensures in
    record {
      frames = c.unwrap_or-frames.result.0;
      bytes = c.unwrap_or-frames.result.1;
      commanded = c.command.ensures;
      leaves = λ up. subst (λ (w : NodeView × (ℕ × ℕ)). LeavesBytes w.0.tc kept w.1.0 w.1.1)
          (λ i. (c.world.ensures i, sym c.unwrap_or-frames.ensures i))
          (cut_of c.world.result.now.tc kept c.world.result.now.tc_up c.cut_after.result _ cut.leaves cut.down
          (ap (λ (w : NodeView). w.tc_up) c.world.ensures ∙ up));
    }
