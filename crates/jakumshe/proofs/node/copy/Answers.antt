use Rattle.std.proofs.Common.{ℕ, List, ◌++◌, ◌-◌, length, take, drop, ap, ◌∙◌, arith, length-drop}
use Rattle.std.proofs.lemmas.List.{take_all}
use Rattle.jakumshe.proofs.Copying.{copies_none, copies_all}
use Rattle.jakumshe.proofs.node.copy.Goals as goal

pub returns-then-bytes-from : goal.returns-then-bytes-from
returns-then-bytes-from c = copies_none c.args.bytes.now c.args.room.now c.args.from c.if-bytes-from.true

pub returns-then-next-room : goal.returns-then-next-room
returns-then-next-room c =
    let all = c.args.bytes.now in
    let next = take (length all - c.args.from) (drop c.args.from all) in
    let rest = drop (length next) c.args.room.now in
    copies_all all (c.copy_from_slice.new.self ++ rest) rest c.args.from (ap (λ (xs : List ℕ). xs ++ rest)
    (c.copy_from_slice.ensures.after
    ∙ take_all (length all - c.args.from) (drop c.args.from all) (omega (arith, length-drop c.args.from all))))
