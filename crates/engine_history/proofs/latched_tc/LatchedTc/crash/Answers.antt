use Rattle.std.specs.Prelude.{Result, Ok, Err, IfOk, OnErr}
use Rattle.std.specs.Result.{result_unwrap_or}
use Rattle.std.proofs.Common.{◌≡◌, ℕ, Bool, true, false, true≢false, sym, ◌∙◌, subst}
use Rattle.record_key.specs.declared.refusal.Refusal.{Refusal}
use Rattle.node_sides.specs.tc_core.specs.TcView.{TcView}
use Rattle.node_sides.specs.node_laws.specs.Component.{LeavesBytes}
use Rattle.engine_history.specs.Latched.{TcFound}
use Rattle.engine_history.specs.Steps.{GivesTc}
use Rattle.engine_history.proofs.latched_tc.LatchedTc.crash.Goals as goal

-- what the crash is asked for, where the component runs
cut_of : (tc : TcView) (kept : ℕ) (up : Bool) (cut : Result (ℕ × ℕ) Refusal) (other : ℕ × ℕ)
    → IfOk cut (λ c. LeavesBytes tc kept c.0 c.1) → OnErr cut (up ≡ false) → up ≡ true
    → LeavesBytes tc kept (result_unwrap_or cut other).0 (result_unwrap_or cut other).1
cut_of tc kept up (Ok c) other leaves down runs = leaves
cut_of tc kept up (Err refusal) other leaves down runs = absurd (true≢false (sym runs ∙ down))

pub returns-clause-left : goal.returns-clause-left
returns-clause-left g c =
    let s = c.self.inside in let cut = c.cut_after.ensures in
    record {
      frames = c.unwrap_or-frames.result.0;
      bytes = c.unwrap_or-frames.result.1;
      given = c.command.ensures.given;
      shown = c.command.ensures.shown;
      event_is = c.command.ensures.event;
      first = c.command.ensures.first;
      state = record { side = s.side; sent = s.sent };
      gives =
          subst (λ (f : TcFound). GivesTc g.J.Naming.start c.command.result.value.before.steps f.state)
          (sym c.self.view_is) c.command.ensures.stood;
      leaves = λ up. subst (λ (p : ℕ × ℕ). LeavesBytes s.side.tc c.args.kept p.0 p.1)
          (sym c.unwrap_or-frames.ensures)
          (cut_of s.side.tc c.args.kept s.side.up c.cut_after.result _ cut.leaves cut.down up);
    }
