use Rattle.std.proofs.Common.{◌∙◌, ap, subst, length, arith}
use Rattle.codec.specs.Fields.{answer_bytes, IsAnswer}
use Rattle.codec.specs.Parted.{answer_in}
use Rattle.codec.proofs.Fields.{answer_length}
use Rattle.codec.proofs.spelled_answer.SpelledAnswer.as_bytes.Goals as goal

pub returns-clause-bytes : goal.returns-clause-bytes
returns-clause-bytes c = c.self.invariant.0 ∙ ap answer_bytes c.self.view_is

pub returns-clause-spelled : goal.returns-clause-spelled
returns-clause-spelled c = subst IsAnswer c.self.view_is c.self.invariant.1

pub returns-clause-short : goal.returns-clause-short
returns-clause-short c =
    omega (arith, ap length c.self.invariant.0, answer_length (answer_in c.self.inside.bytes.now) c.self.invariant.1)
