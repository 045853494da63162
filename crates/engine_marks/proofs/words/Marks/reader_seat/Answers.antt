use Rattle.std.proofs.Common.{rules}
use Rattle.engine_marks.proofs.Steps.{comes}
use Rattle.engine_marks.proofs.words.Marks.reader_seat.Goals as goal

pub load_new_seat-requires : goal.load_new_seat-requires
load_new_seat-requires g c = (search rules, comes _)
