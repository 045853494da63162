use Rattle.std.proofs.Common.{rules, ap₂, ◌≡◌, ◌∙◌}
use Rattle.std.proofs.lemmas.Result.{IfOk-weaker}
use Rattle.clap.specs.Simple.{app_of}
use Rattle.shell_command_line.specs.CommandLine.{of_stores, program}
use Rattle.shell_command_line.proofs.Adding.{added_all, with_all}
use Rattle.shell_command_line.proofs.task.command_line.Goals as goal

pub returns : goal.returns
returns c =
    let top : app_of c.subcommand_required.result ≡ program = search rules in
    let stores : app_of c.in_ok-subcommands-2.field-0 ≡ of_stores =
    added_all c.subcommand_required.result c.in_ok-subcommands.subcommands.items c.in_ok-subcommands-2.field-0
    c.in_ok-subcommands.ensures.local c.in_ok-subcommands-2.ensures
    ∙ ap₂ with_all top c.in_ok-subcommands.ensures.shapes in
    IfOk-weaker c.subcommands-3.result _ _
    (λ made added. added_all c.in_ok-subcommands-2.field-0 c.in_ok-halves.halves.items made
    c.in_ok-halves.ensures.local added ∙ ap₂ with_all stores c.in_ok-halves.ensures.shapes)
    c.subcommands-3.ensures
