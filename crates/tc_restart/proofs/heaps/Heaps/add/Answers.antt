use Rattle.std.proofs.Common.{refl, inl, ◌∷◌}
use Rattle.std.specs.BinaryHeap.{heap_items}
use Rattle.std.specs.declared.cmp.Reverse.{Reverse}
use Rattle.std.proofs.lemmas.List.Sorted.{IsPermutation-map}
use Rattle.tc_restart.proofs.heaps.Heaps.add.Goals as goal

pub returns-in-Ok-clause-added : goal.returns-in-Ok-clause-added
returns-in-Ok-clause-added c =
    let one : Reverse _ = record { 0 = c.args.loser.txn } in (
      refl,
      inl (
        c.if-loser-eq0.true,
        refl,
        IsPermutation-map (λ (x : Reverse _). x.0)
            (one ∷ heap_items c.args.self.now.done) (heap_items c.push.new.self) c.in-Ok.ensures.permutation,
      ),
    )
