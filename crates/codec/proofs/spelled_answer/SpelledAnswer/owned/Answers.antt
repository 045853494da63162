use Rattle.std.proofs.Common.{◌∙◌, sym, ap}
use Rattle.codec.specs.Parted.{answer_or, answer_in}
use Rattle.codec.specs.Reading.{answer_at}
use Rattle.codec.proofs.SpelledAnswers.{spelled_read}
use Rattle.codec.proofs.spelled_answer.SpelledAnswer.owned.Goals as goal

pub unreachable-requires : goal.unreachable-requires
unreachable-requires c =
    let read = ap answer_at c.self.invariant.0 ∙ spelled_read (answer_in c.self.inside.bytes.now) c.self.invariant.1 in
    absurd (cc (read, c.in-None.ensures))

pub returns : goal.returns
unfolding answer_in
returns c = c.owned.ensures ∙ sym (ap answer_or c.in-Some.ensures) ∙ c.self.view_is
