use Rattle.std.proofs.Common.{refl}
use Rattle.shell_scripts.proofs.Printing.{stops_first, prints_both}
use Rattle.shell_scripts.specs.Answers.{answer_text}
use Rattle.shell_scripts.proofs.answers.print_answered.Goals as goal

pub returns-in_err-print : goal.returns-in_err-print
returns-in_err-print g c =
    stops_first _ _ _ (answer_text c.args.answer.now) _ c.from_residual.result c.from_residual.ensures.0
    c.in_err-print.ensures refl

pub returns : goal.returns
returns g c = prints_both _ _ _ _ _ _ c.print_answer.result c.in_ok-print.ensures c.print_answer.ensures refl
