use Rattle.std.proofs.Common.{arith, sym}
use Rattle.std.specs.BinaryHeap.{heap_items}
use Rattle.std.proofs.lemmas.Grind.{common_steps}
use Rattle.std.proofs.lemmas.List.{nil_from_length}
use Rattle.tc_restart.specs.Heaps.{seen}
use Rattle.tc_restart.proofs.Listed.{finds_next, finds_none}
use Rattle.tc_restart.proofs.Tops.{top_left}
use Rattle.tc_restart.proofs.heaps.Heaps.lose_next.Goals as goal

pub returns-in-Some : goal.returns-in-Some
returns-in-Some c =
    finds_next (seen c.args.self.now) c.in-Some.top.now
    (0, grind (arith, common_steps, c.in-Some.ensures.variant), sym c.in-Some.ensures.lookup)
    (top_left c.in-Some.top.now (heap_items c.args.self.now.undoing) (c.in-Some.ensures.greatest c.requires.undoing))

pub returns-in-None : goal.returns-in-None
returns-in-None c =
    finds_none (seen c.args.self.now)
    (nil_from_length (heap_items c.args.self.now.undoing) (grind (arith, common_steps, c.in-None.ensures.variant)))
