use Rattle.std.proofs.Common.{◌∙◌, ℕ, ◌+◌, List, ◌++◌, length, ap, append_assoc, arith}
use Rattle.std.proofs.lemmas.List.{length-append}
use Rattle.codec.proofs.LongHeads.{longer_headed_frame}
use Rattle.codec.proofs.undoing.put_comp.Goals as goal

pub returns-clause-spelling : goal.returns-clause-spelling
returns-clause-spelling c =
    let a = c.args in
    let started = c.put_longer_start.new.out.items in
    let head = a.head.now in
    let key = a.key.now in
    let rest = a.rest.now in
    let len = 25 + length head + length key + length rest in
    longer_headed_frame 5 len (head ++ (key ++ rest)) a.out.now.items _ started
    c.put_bytes-2.new.out.items c.in_ok-reserve.ensures.items
    (c.put_bytes-2.ensures.items
    ∙ ap (λ (b : List ℕ). b ++ rest) (c.put_bytes.ensures.items ∙ ap (λ (b : List ℕ). b ++ key) c.put_few.ensures.items)
    ∙ append_assoc (started ++ head) key rest
    ∙ append_assoc started head (key ++ rest))
    a.numbers.txn a.numbers.undoes a.numbers.next c.put_longer_start.ensures.items
    (omega (arith, length-append head (key ++ rest), length-append key rest))
