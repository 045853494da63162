use Rattle.std.proofs.Common.{rules, ap₂, ◌≡◌, ◌∙◌, false}
use Rattle.std.proofs.lemmas.Result.{IfOk-weaker}
use Rattle.clap.specs.Simple.{app_of, with_rule}
use Rattle.clap.specs.Walk.{rule_of}
use Rattle.shell_command_line.proofs.Adding.{local_with}
use Rattle.shell_command_line.specs.CommandLine.{IsLocal, counting_refusals, creating, interacting, keeping_log, plain_run}
use Rattle.shell_command_line.proofs.task.run_command.Goals as goal

pub returns-clause-app : goal.returns-clause-app
returns-clause-app c =
    let local : c.help.result.global ≡ false = search rules in
    let rule : rule_of c.help.result ≡ creating = search rules in
    let one : app_of c.in_ok-arg.field-0 ≡ with_rule plain_run creating =
    c.in_ok-arg.ensures.shape local ∙ ap₂ with_rule c.in_ok-command.ensures.app rule in
    let local_2 : c.help-2.result.global ≡ false = search rules in
    let rule_2 : rule_of c.help-2.result ≡ counting_refusals = search rules in
    let two : app_of c.in_ok-arg-2.field-0 ≡ with_rule (with_rule plain_run creating) counting_refusals =
    c.in_ok-arg-2.ensures.shape local_2 ∙ ap₂ with_rule one rule_2 in
    let local_3 : c.help-3.result.global ≡ false = search rules in
    let rule_3 : rule_of c.help-3.result ≡ interacting = search rules in
    let three : app_of c.in_ok-arg-3.field-0 ≡ with_rule (with_rule (with_rule plain_run creating) counting_refusals) interacting =
    c.in_ok-arg-3.ensures.shape local_3 ∙ ap₂ with_rule two rule_3 in
    let local_4 : c.help-4.result.global ≡ false = search rules in
    let rule_4 : rule_of c.help-4.result ≡ keeping_log = search rules in
    IfOk-weaker c.arg-4.result _ _ (λ made added. added.shape local_4 ∙ ap₂ with_rule three rule_4) c.arg-4.ensures

pub returns-clause-local : goal.returns-clause-local
returns-clause-local c =
    let one : IsLocal c.in_ok-arg.field-0 =
    local_with _ _ c.in_ok-arg.field-0 c.in_ok-arg.ensures c.in_ok-command.ensures.local (search rules) in
    let two : IsLocal c.in_ok-arg-2.field-0 =
    local_with _ _ c.in_ok-arg-2.field-0 c.in_ok-arg-2.ensures one (search rules) in
    let three : IsLocal c.in_ok-arg-3.field-0 =
    local_with _ _ c.in_ok-arg-3.field-0 c.in_ok-arg-3.ensures two (search rules) in
    IfOk-weaker c.arg-4.result _ _ (λ made added. local_with _ _ made added three (search rules)) c.arg-4.ensures
