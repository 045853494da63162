use Rattle.std.proofs.Common.{rules, ap₂, ◌≡◌, ◌∙◌, false, codes}
use Rattle.std.proofs.lemmas.Result.{IfOk-weaker}
use Rattle.clap.specs.Simple.{app_of, new_app, with_rule}
use Rattle.clap.specs.Walk.{rule_of}
use Rattle.shell_command_line.proofs.Adding.{local_with}
use Rattle.shell_command_line.specs.CommandLine.{IsLocal, locks, rounds, sessions}
use Rattle.shell_command_line.proofs.task.pool_command.Goals as goal

pub returns-clause-app : goal.returns-clause-app
returns-clause-app c =
    let empty : app_of c.after_help.result ≡ new_app (codes "pool") = search rules in
    let local : c.help.result.global ≡ false = search rules in
    let rule : rule_of c.help.result ≡ sessions = search rules in
    let one : app_of c.in_ok-arg.field-0 ≡ with_rule (new_app (codes "pool")) sessions =
    c.in_ok-arg.ensures.shape local ∙ ap₂ with_rule empty rule in
    let local_2 : c.help-2.result.global ≡ false = search rules in
    let rule_2 : rule_of c.help-2.result ≡ rounds = search rules in
    let two : app_of c.in_ok-arg-2.field-0 ≡ with_rule (with_rule (new_app (codes "pool")) sessions) rounds =
    c.in_ok-arg-2.ensures.shape local_2 ∙ ap₂ with_rule one rule_2 in
    let local_3 : c.help-3.result.global ≡ false = search rules in
    let rule_3 : rule_of c.help-3.result ≡ locks = search rules in
    IfOk-weaker c.arg-3.result _ _ (λ made added. added.shape local_3 ∙ ap₂ with_rule two rule_3) c.arg-3.ensures

pub returns-clause-local : goal.returns-clause-local
returns-clause-local c =
    let empty : IsLocal c.after_help.result = search rules in
    let one : IsLocal c.in_ok-arg.field-0 = local_with _ _ c.in_ok-arg.field-0 c.in_ok-arg.ensures empty (search rules) in
    let two : IsLocal c.in_ok-arg-2.field-0 =
    local_with _ _ c.in_ok-arg-2.field-0 c.in_ok-arg-2.ensures one (search rules) in
    IfOk-weaker c.arg-3.result _ _ (λ made added. local_with _ _ made added two (search rules)) c.arg-3.ensures
