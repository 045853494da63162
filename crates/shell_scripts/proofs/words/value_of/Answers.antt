use Rattle.std.proofs.Common.{◌∙◌}
use Rattle.shell_scripts.proofs.Numbers.{too_great}
use Rattle.shell_scripts.proofs.words.value_of.Goals as goal

pub returns-then-number-ge-AMOUNT_LIMIT : goal.returns-then-number-ge-AMOUNT_LIMIT
returns-then-number-ge-AMOUNT_LIMIT c =
    too_great _ c.loop-digit.number c.loop-digit.digit-index c.from.result _ c.args.digits.now c.loop-digit-test.true
    c.loop-digit.invariant.value (c.from.ensures ∙ c.saturating_sub.ensures) c.if-number-ge-AMOUNT_LIMIT.true
