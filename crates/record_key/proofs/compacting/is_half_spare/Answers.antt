use Rattle.std.proofs.Common.{◌≡◌, arith}
use Rattle.std.proofs.lemmas.List.Sums.{sum_by_more_le}
use Rattle.record_key.specs.declared.slot.Slot.{Slot}
use Rattle.record_key.specs.Compacting.{packed_len}
use Rattle.record_key.specs.Packed.{IsFilled}
use Rattle.record_key.proofs.Copies.{each}
use Rattle.record_key.proofs.compacting.is_half_spare.Goals as goal

pub returns-then-left-len : goal.returns-then-left-len
returns-then-left-len c =
    let bytes = c.args.bytes.now in
    let slots = c.args.slots.now in
    let place = c.loop-slot.slot-index in
    let none : Slot = record { number = 0; place = 0 } in
    let takes : c.packed_len-len.result ≡ packed_len bytes _ =
    c.packed_len-len.ensures (each (IsFilled bytes) slots place none c.requires c.loop-slot-test.true) in
    let all = sum_by_more_le (λ (s : Slot). packed_len bytes s.place) slots place none c.loop-slot-test.true in
    (λ it. absurd (cc), λ half. absurd (omega (arith, c.loop-slot.invariant, c.if-left-len.true, takes, all, half)))
