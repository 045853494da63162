use Rattle.std.proofs.Common.{refl, arith}
use Rattle.std.specs.BinaryHeap.{heap_items}
use Rattle.std.proofs.lemmas.Grind.{common_steps}
use Rattle.std.proofs.lemmas.List.{nil_from_length}
use Rattle.tc_restart.specs.declared.heaps.Heaps.{Heaps}
use Rattle.tc_restart.specs.Heaps.{seen}
use Rattle.tc_restart.proofs.Taking.{takes_comp, takes_no_comp}
use Rattle.tc_restart.proofs.Tops.{top_left}
use Rattle.tc_restart.proofs.heaps.Heaps.compensated.Goals as goal

pub returns-in-Some-clause-taken : goal.returns-in-Some-clause-taken
returns-in-Some-clause-taken c =
    let old : Heaps = c.args.self.now in
    let mid : Heaps = record { below = old.below; undoing = c.pop.new.self; done = old.done } in
    takes_comp (seen old) (seen mid) (seen c.add.new.self) c.in-Some.loser c.args.number c.args.next refl
    c.in-Some.ensures.permutation refl
    (top_left c.in-Some.loser (heap_items old.undoing) (c.in-Some.ensures.heap_order c.requires.undoing).1)
    c.add.ensures.added

pub returns-in_default-clause-taken : goal.returns-in_default-clause-taken
returns-in_default-clause-taken c =
    takes_no_comp (seen c.args.self.now)
    (seen (record { below = c.args.self.now.below; undoing = c.pop.new.self; done = c.args.self.now.done }))
    c.args.number c.args.next
    (nil_from_length (heap_items c.args.self.now.undoing) (grind (arith, common_steps, c.in_default.ensures.none)))
