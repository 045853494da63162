use Rattle.std.proofs.Common.{ap, option_map}
use Rattle.shell_scripts.proofs.Grammar.{seven_words}
use Rattle.shell_scripts.proofs.parsing.parse_longer.Goals as goal

pub returns-in-Some : goal.returns-in-Some
returns-in-Some c =
    seven_words c.args.name.now c.args.label.now c.args.key.now c.args.third.now c.args.fourth.now c.args.rest.now
    _ c.in-Some.field-0.now _ c.cut_at.ensures.parts (ap (option_map (λ s. s.now)) c.in-Some.is)
