use Rattle.std.proofs.Common.{Bool, ◌++◌, ap, ◌∙◌, option_map, subst}
use Rattle.shell_scripts.specs.Labels.{bindings}
use Rattle.shell_scripts.specs.Script.{asked_by, commands_of, parts_left, lines_from}
use Rattle.shell_scripts.specs.Text.{WritesRun, status_after}
use Rattle.shell_scripts.proofs.Printing.{appends_then}
use Rattle.shell_scripts.proofs.Running.{line_cut, line_fails, line_carries, run_is_done}
use Rattle.shell_scripts.proofs.script_run.run_from.Goals as goal

pub returns-in_default-run_line : goal.returns-in_default-run_line
returns-in_default-run_line g c =
    let inv = c.loop-left.invariant in
    line_cut c.args.continues (commands_of (lines_from c.args.script.now)) c.args.shell.now.world
    (bindings c.args.shell.now.labels) inv.so_far c.loop-left.has_failed _ c.loop-left.shell.world
    (bindings c.loop-left.shell.labels) _ (asked_by c.cut_at.result.0.now)
    (commands_of (parts_left 10 (option_map (λ s. s.now) c.cut_at.result.1))) _ _ _ _ _
    (ap (λ o. commands_of (parts_left 10 (option_map (λ s. s.now) o))) c.in-Some.is
    ∙ ap commands_of c.cut_at.ensures.parts)
    inv.goes_on inv.appended c.in_default-run_line.ensures

pub returns-then-ends : goal.returns-then-ends
returns-then-ends g c =
    let inv = c.loop-left.invariant in
    line_fails c.args.continues (commands_of (lines_from c.args.script.now)) c.args.shell.now.world
    (bindings c.args.shell.now.labels) inv.so_far c.loop-left.has_failed _ c.loop-left.shell.world
    (bindings c.loop-left.shell.labels) c.in-Ok.failed (asked_by c.cut_at.result.0.now)
    (commands_of (parts_left 10 (option_map (λ s. s.now) c.cut_at.result.1))) _ _ _ _ _
    (ap (λ o. commands_of (parts_left 10 (option_map (λ s. s.now) o))) c.in-Some.is
    ∙ ap commands_of c.cut_at.ensures.parts)
    inv.goes_on inv.appended c.in-Ok.ensures c.if-ends.true

pub loop-left-preserved : goal.loop-left-preserved
loop-left-preserved g c =
    let inv = c.loop-left.invariant in
    record {
      so_far = inv.so_far ++ c.in-Ok.ensures.said;
      appended = appends_then _ _ _ inv.so_far c.in-Ok.ensures.said inv.appended c.in-Ok.ensures.appended;
      goes_on = line_carries c.args.continues (commands_of (lines_from c.args.script.now)) c.args.shell.now.world
          (bindings c.args.shell.now.labels) inv.so_far c.loop-left.has_failed _ c.loop-left.shell.world
          (bindings c.loop-left.shell.labels) c.in-Ok.failed (asked_by c.cut_at.result.0.now)
          (commands_of (parts_left 10 (option_map (λ s. s.now) c.cut_at.result.1)))
          _ _ _ _
          (ap (λ o. commands_of (parts_left 10 (option_map (λ s. s.now) o))) c.in-Some.is
          ∙ ap commands_of c.cut_at.ensures.parts)
          inv.goes_on c.in-Ok.ensures c.if-ends.false;
    }

pub returns-then-has_failed : goal.returns-then-has_failed
returns-then-has_failed g c =
    let inv = c.loop-left.invariant in
    let P : Bool → Type 0 = λ failed. WritesRun c.args.continues (commands_of (lines_from c.args.script.now))
    c.args.shell.now.world (bindings c.args.shell.now.labels) (g.W.Write.contents c.args.writer.now)
    (g.W.Write.contents c.loop-left.writer) (status_after failed 0) in
    subst P c.if-has_failed.true
    (run_is_done c.args.continues (commands_of (lines_from c.args.script.now)) c.args.shell.now.world
    (bindings c.args.shell.now.labels) inv.so_far c.loop-left.has_failed _ c.loop-left.shell.world
    (bindings c.loop-left.shell.labels) _ _
    (ap (λ o. commands_of (parts_left 10 (option_map (λ s. s.now) o))) c.in_default.is) inv.goes_on inv.appended)

pub returns-else-has_failed : goal.returns-else-has_failed
returns-else-has_failed g c =
    let inv = c.loop-left.invariant in
    let P : Bool → Type 0 = λ failed. WritesRun c.args.continues (commands_of (lines_from c.args.script.now))
    c.args.shell.now.world (bindings c.args.shell.now.labels) (g.W.Write.contents c.args.writer.now)
    (g.W.Write.contents c.loop-left.writer) (status_after failed 0) in
    subst P c.if-has_failed.false
    (run_is_done c.args.continues (commands_of (lines_from c.args.script.now)) c.args.shell.now.world
    (bindings c.args.shell.now.labels) inv.so_far c.loop-left.has_failed _ c.loop-left.shell.world
    (bindings c.loop-left.shell.labels) _ _
    (ap (λ o. commands_of (parts_left 10 (option_map (λ s. s.now) o))) c.in_default.is) inv.goes_on inv.appended)
