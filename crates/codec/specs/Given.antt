-- An answer that is handed on, as a value or as its spelling.
use Rattle.record_key.specs.declared.op.Answer.{Answer}
use Rattle.codec.specs.declared.spelled_answer.GivenAnswer.{GivenAnswer}
use Rattle.codec.specs.declared.spelled_answer.GivenAnswer.TheVariants as given

abbrev pub answer_given : GivenAnswer → Answer
answer_given (given.Whole answer) = answer.now
answer_given (given.Spelled answer) = answer
