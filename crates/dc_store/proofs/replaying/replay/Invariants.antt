use Rattle.std.specs.Vec.Iter.{into_iter_items}
use Rattle.dc_store.proofs.Replayed.{IsReplayed}
use Rattle.dc_store.proofs.replaying.replay.Given as goal

-- the places hold what the records so far give
abbrev pub invariant-loop-change : goal.invariant-loop-change
invariant-loop-change l =
    IsReplayed l.fn.records.items l.fn.shelf.slots.items l.yielded (into_iter_items l.change-iterator)
    l.shelf.slots.items l.number
