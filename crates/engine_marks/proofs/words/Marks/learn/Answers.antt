use Rattle.std.proofs.Common.{rules}
use Rattle.engine_marks.proofs.Steps.{tells, meets, compares}
use Rattle.engine_marks.proofs.words.Marks.learn.Goals as goal

pub split_seat-told-requires : goal.split_seat-told-requires
split_seat-told-requires g c = (search rules, search rules, tells _ _)

pub join_seat-requires : goal.join_seat-requires
join_seat-requires g c = (search rules, search rules, search rules, search rules, meets _ _ _ _ (search rules))

pub load-requires : goal.load-requires
load-requires g c = (search rules, search rules, compares _ _ _)
