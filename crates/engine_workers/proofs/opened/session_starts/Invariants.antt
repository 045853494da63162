use Rattle.std.proofs.Common.{◌≡◌, ◌+◌, All, length}
use Rattle.std.specs.List.{AllByRecursion}
use Rattle.engine_marks.specs.Seen.{reader}
use Rattle.engine_workers.specs.Opened.{ReadsMarks}
use Rattle.engine_workers.proofs.opened.session_starts.Given as goal

-- those so far are of these marks, and so are the seats that are left
abbrev pub invariant-loop-seat : goal.invariant-loop-seat
invariant-loop-seat l = AllByRecursion (ReadsMarks l.fn.marks) l.session_starts.items
    × All (λ s. s ≡ reader l.fn.marks 0 0) l.seat-iterator.rest.items
    × (length l.session_starts.items + length l.seat-iterator.rest.items ≡ length l.fn.readers.items)
