use Rattle.std.proofs.Common.{rules, ◌≡◌, ℕ, List, Option, None, sym, ap, ◌∙◌, subst}
use Rattle.shell_scripts.specs.Labels.{Bindings, bindings}
use Rattle.shell_scripts.specs.Script.{commands_of, first_fault, lines_from}
use Rattle.shell_scripts.specs.Text.{WritesRun, IsAllOf}
use Rattle.shell_scripts.proofs.Running.{unread, ran}
use Rattle.shell_scripts.proofs.script_run.run_in.Goals as goal

pub returns-in-Err : goal.returns-in-Err
returns-in-Err g c =
    unread c.args.continues c.args.shell.now.world (bindings c.args.shell.now.labels) _ _ _ c.refusal_of.result
    c.refuse.result c.refusal_of.ensures c.refuse.ensures

pub returns : goal.returns
returns g c =
    let given : Option (List ℕ) = g.R.Read.remaining c.args.reader.now in
    let old : Option (List ℕ) = g.W.Write.contents c.args.writer.now in
    let new : Option (List ℕ) = g.W.Write.contents c.run_from.new.writer in
    let labels : Bindings = bindings c.args.shell.now.labels in
    let script : List ℕ = c.read_to_end.new.buf.items in
    let all : IsAllOf given script = search rules in
    let ok : first_fault script ≡ None =
    ap first_fault (sym c.as_slice.ensures.value) ∙ sym c.first_fault.ensures ∙ c.in-None.is in
    ran c.args.continues c.args.shell.now.world labels given old new script c.run_from.result
    (record { kept = c.kept.ensures.kept; stood = c.stood.ensures })
    all ok
    (subst (λ (s : List ℕ). WritesRun c.args.continues (commands_of (lines_from s)) c.args.shell.now.world labels old new
    c.run_from.result) c.as_slice-in-None.ensures.value c.run_from.ensures)
