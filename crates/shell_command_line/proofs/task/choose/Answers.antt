use Rattle.std.proofs.Common.{◌≡◌, map, true, List, ℕ, [], Option, sym, subst, refl}
use Rattle.clap.specs.Simple.{App, HasMatchesOf, subcommand_of, subcommand_rows_of}
use Rattle.clap.specs.Faults.{fault_of, is_simple_and_free}
use Rattle.clap.specs.Kinds.{HasKind}
use Rattle.clap.specs.Walk.{Row, Text}
use Rattle.shell_command_line.specs.Asked.{AsksFor, MayAskFor}
use Rattle.shell_command_line.specs.CommandLine.{command_line}
use Rattle.shell_command_line.proofs.Subcommands.{words_taken}
use Rattle.shell_command_line.proofs.task.choose.Goals as goal

pub task_of-requires : goal.task_of-requires
task_of-requires g c =
    let texts : List (List ℕ) = map g.S.AsStr.text c.args.words.now in
    let none : fault_of command_line texts ≡ [] =
    subst (λ (app : App). is_simple_and_free app ≡ true → fault_of app texts ≡ []) c.in_ok-command_line.ensures
    c.in-Ok.ensures.kinds refl in
    let m = c.in-Ok.matches in
    let same : subcommand_rows_of m ≡ subcommand_of command_line texts =
    (subst (λ (app : App). HasMatchesOf app texts m) c.in_ok-command_line.ensures c.in-Ok.ensures.matches refl).1 in
    subst MayAskFor (sym same) (words_taken texts none)

pub returns-in-Ok-clause-task : goal.returns-in-Ok-clause-task
returns-in-Ok-clause-task g c =
    let texts : List (List ℕ) = map g.S.AsStr.text c.args.words.now in
    let m = c.in-Ok.matches in
    let same : subcommand_rows_of m ≡ subcommand_of command_line texts =
    (subst (λ (app : App). HasMatchesOf app texts m) c.in_ok-command_line.ensures c.in-Ok.ensures.matches refl).1 in
    subst (λ (s : Option (Text × List Row)). AsksFor s c.task_of.result) same c.task_of.ensures.asks

pub returns-in-Ok-clause-fault : goal.returns-in-Ok-clause-fault
returns-in-Ok-clause-fault g c =
    let texts : List (List ℕ) = map g.S.AsStr.text c.args.words.now in
    subst (λ (app : App). is_simple_and_free app ≡ true → fault_of app texts ≡ []) c.in_ok-command_line.ensures
    c.in-Ok.ensures.kinds refl

pub returns-in-Err-clause-fault : goal.returns-in-Err-clause-fault
returns-in-Err-clause-fault g c =
    let texts : List (List ℕ) = map g.S.AsStr.text c.args.words.now in
    subst (λ (app : App). is_simple_and_free app ≡ true → HasKind (fault_of app texts) c.in-Err.fault)
    c.in_ok-command_line.ensures c.in-Err.ensures.kinds refl
