use Rattle.std.proofs.Common.{map, ap, arith, sym}
use Rattle.std.specs.BinaryHeap.{heap_items}
use Rattle.std.specs.declared.cmp.Reverse.{Reverse}
use Rattle.std.proofs.lemmas.Grind.{common_steps}
use Rattle.std.proofs.lemmas.List.{nil_from_length}
use Rattle.tc_restart.specs.Heaps.{seen}
use Rattle.tc_restart.proofs.Listed.{finds_ended, finds_unended}
use Rattle.tc_restart.proofs.Lists.{to_map}
use Rattle.tc_restart.proofs.Tops.{top_done}
use Rattle.tc_restart.proofs.heaps.Heaps.ended_next.Goals as goal

pub returns-in-Some : goal.returns-in-Some
returns-in-Some c =
    finds_ended (seen c.args.self.now) c.in-Some.least.now.0
    (to_map (λ (x : Reverse _). x.0) (heap_items c.args.self.now.done) c.in-Some.least.now
    (0, grind (arith, common_steps, c.in-Some.ensures.variant), sym c.in-Some.ensures.lookup))
    (top_done c.in-Some.least.now (heap_items c.args.self.now.done) (c.in-Some.ensures.greatest c.requires.done))

pub returns-in-None : goal.returns-in-None
returns-in-None c =
    finds_unended (seen c.args.self.now)
    (ap (map (λ (x : Reverse _). x.0))
    (nil_from_length (heap_items c.args.self.now.done) (grind (arith, common_steps, c.in-None.ensures.variant))))
