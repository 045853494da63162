use Rattle.std.proofs.Common.{ap, arith}
use Rattle.std.proofs.lemmas.Grind.{common_steps}
use Rattle.std.proofs.lemmas.List.{map_more}
use Rattle.std.proofs.lemmas.List.Sums.{sum_by_more}
use Rattle.record_key.specs.declared.entry.Entry.{Entry}
use Rattle.record_key.specs.declared.slot.Slot.{Slot}
use Rattle.record_key.specs.Compacting.{packed_len}
use Rattle.record_key.specs.Packed.{entry_in, IsFilled}
use Rattle.record_key.proofs.Copies.{each, no_longer}
use Rattle.record_key.proofs.compacting.copied.Goals as goal

pub loop-slot-preserved : goal.loop-slot-preserved
loop-slot-preserved c =
    let bytes = c.args.bytes.now in
    let slots = c.args.slots.now in
    let at = c.loop-slot.slot-index in
    let none : Slot = record { number = 0; place = 0 } in
    let here = each (IsFilled bytes) slots at none c.requires c.loop-slot-test.true in
    let key = ap (λ (e : Entry). e.key) c.packed_entry-entry.ensures in
    let answer = ap (λ (e : Entry). e.answer) c.packed_entry-entry.ensures in
    let grown = rw (c.lent-answer.ensures, answer, key) at c.in_ok-put_at.ensures.grown in
    record {
      filled = c.put_at.ensures.filled;
      same = grind (arith, common_steps, map_more (entry_in bytes) slots at none c.loop-slot-test.true);
      tight = omega (
        arith,
        c.loop-slot.invariant.tight,
        grown,
        no_longer bytes _ here,
        sum_by_more (λ (s : Slot). packed_len bytes s.place) slots at none c.loop-slot-test.true,
      );
    }
