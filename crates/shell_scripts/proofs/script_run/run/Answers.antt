use Rattle.std.proofs.Common.{List, ℕ, Option, subst}
use Rattle.node_world.specs.node_laws.specs.Node.{NodeView}
use Rattle.shell_scripts.specs.Labels.{Bindings, bindings}
use Rattle.shell_scripts.specs.Text.{WritesTextFrom}
use Rattle.shell_scripts.proofs.Running.{on_new, unmade}
use Rattle.shell_scripts.proofs.script_run.run.Goals as goal

pub returns-in-Ok : goal.returns-in-Ok
returns-in-Ok g c =
    let given : Option (List ℕ) = g.R.Read.remaining c.args.reader.now in
    let old : Option (List ℕ) = g.W.Write.contents c.args.writer.now in
    let new : Option (List ℕ) = g.W.Write.contents c.run_in.new.writer in
    let labels : Bindings = bindings c.in-Ok.shell.labels in
    let P : NodeView → Type 0 = λ view. WritesTextFrom c.args.continues view labels given old new c.run_in.result in
    on_new c.args.continues labels given old new c.run_in.result c.in-Ok.ensures.labels
    (subst P c.in-Ok.ensures.world c.run_in.ensures)

pub returns-in-Err : goal.returns-in-Err
returns-in-Err g c =
    unmade c.args.continues _ _ _ c.in-Err.refusal c.refuse.result c.in-Err.ensures.memory c.refuse.ensures
