-- Losers as two heaps: the ones by what is left, the greatest first, the others by their numbers, the least first.
use Rattle.std.specs.Prelude.{◌≡◌, ◌≢◌, ◌⊎◌, ℕ, ◌+◌, ◌≤◌, ◌∷◌, map}
use Rattle.std.specs.BinaryHeap.{heap_items, heap_len, heap_capacity, IsHeap}
use Rattle.std.specs.List.Sorted.{IsPermutation}
use Rattle.std.specs.Ordering.{nat_cmp, ordering_then}
use Rattle.std.specs.declared.cmp.Ordering.{Ordering}
use Rattle.std.specs.declared.cmp.Reverse.{Reverse}
use Rattle.tc_restart.specs.declared.loser.Loser.{Loser}
use Rattle.tc_restart.specs.declared.heaps.Heaps.{Heaps}
use Rattle.tc_restart.specs.Losers.{LosersView}

-- by what is left first, as the order that the type derives
abbrev pub loser_cmp : Loser → Loser → Ordering
loser_cmp x y = ordering_then (nat_cmp x.left y.left) (ordering_then (nat_cmp x.txn y.txn) (nat_cmp x.last y.last))

-- the least comes last
abbrev pub falling_cmp : Reverse ℕ → Reverse ℕ → Ordering
falling_cmp x y = nat_cmp y.0 x.0

-- the losers that they hold
abbrev pub seen : Heaps → LosersView
seen h = record {
  below = h.below;
  undoing = heap_items h.undoing;
  done = map (λ (x : Reverse ℕ). x.0) (heap_items h.done);
}

-- both are heaps, and each has room for all losers and so many more
pub record IsHeaped (h : Heaps) (more : ℕ) : Type 0 where
  pub undoing : IsHeap loser_cmp (heap_items h.undoing)
  pub done : IsHeap falling_cmp (heap_items h.done)
  pub room_undoing : heap_len h.undoing + heap_len h.done + more ≤ heap_capacity h.undoing
  pub room_done : heap_len h.undoing + heap_len h.done + more ≤ heap_capacity h.done

-- a loser more: among those that have something left to undo, or those that haven't
abbrev pub Adds : LosersView → Loser → LosersView → Type 0
Adds old x new =
    (new.below ≡ old.below)
    × (((x.left ≡ 0) × (new.undoing ≡ old.undoing) × IsPermutation (x.txn ∷ old.done) new.done)
    ⊎ ((x.left ≢ 0) × IsPermutation (x ∷ old.undoing) new.undoing × (new.done ≡ old.done)))
