use Rattle.std.proofs.Common.{◌∙◌, ap, List, arith}
use Rattle.dc_store.specs.Shelf.{Slot, leaf_on}
use Rattle.dc_store.proofs.Shelves.{none_more}
use Rattle.dc_store.proofs.shelf.Shelf.new.Goals as goal

pub loop-preserved : goal.loop-preserved
loop-preserved c = record {
  count = omega (arith, c.in_ok-push.ensures.len, c.loop.invariant.count);
  empty = λ id.
      ap (λ (slots : List Slot). leaf_on slots id) c.in_ok-push.ensures.items
      ∙ none_more c.loop.slots.items c.loop.invariant.empty id;
}
