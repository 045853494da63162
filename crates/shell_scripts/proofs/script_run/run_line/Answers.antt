use Rattle.std.proofs.Common.{ap, sym, ◌∙◌, option_map, subst}
use Rattle.std.specs.Prelude.{Bool, Ok}
use Rattle.shell_scripts.specs.Labels.{bindings}
use Rattle.shell_scripts.specs.Script.{asked_by, meaning}
use Rattle.shell_scripts.specs.Text.{WritesLine}
use Rattle.shell_scripts.proofs.Running.{written_line, cut_line}
use Rattle.shell_scripts.proofs.script_run.run_line.Goals as goal

pub returns-in-Ok : goal.returns-in-Ok
returns-in-Ok g c =
    let P : Bool → Type 0 = λ failed. WritesLine (Ok failed) (asked_by c.args.line.now) c.args.shell.now.world
    (bindings c.args.shell.now.labels) c.perform-came.new.self.world (bindings c.perform-came.new.self.labels)
    (g.W.Write.contents c.args.writer.now) (g.W.Write.contents c.print.new.writer) in
    subst P (sym c.has_failed.ensures)
    (written_line (asked_by c.args.line.now) (meaning c.in-Some.line) c.args.shell.now.world
    (bindings c.args.shell.now.labels) c.perform-came.result c.perform-came.new.self.world
    (bindings c.perform-came.new.self.labels) _ _
    (sym c.request.ensures ∙ ap (option_map meaning) c.in-Some.is) c.perform-came.ensures c.in-Ok.ensures)

pub returns : goal.returns
returns g c =
    cut_line _ (asked_by c.args.line.now) (meaning c.in-Some.line) c.args.shell.now.world
    (bindings c.args.shell.now.labels) c.perform-came.result c.perform-came.new.self.world
    (bindings c.perform-came.new.self.labels) _ _
    (sym c.request.ensures ∙ ap (option_map meaning) c.in-Some.is) c.perform-came.ensures c.in-Err.ensures
