use Rattle.std.proofs.Common.{◌≡◌, ℕ, [], List, Option, Some, None, arith, refl, length}
use Rattle.std.specs.Prelude.{IfSome, IfNone}
use Rattle.std.specs.BinaryHeap.{heap_items, IsUpperBound, PopsGreatest, IsHeap}
use Rattle.std.specs.declared.cmp.Reverse.{Reverse}
use Rattle.std.proofs.lemmas.Grind.{common_steps}
use Rattle.std.proofs.lemmas.List.{nil_from_length}
use Rattle.tc_restart.specs.declared.heaps.Heaps.{Heaps}
use Rattle.tc_restart.specs.Heaps.{falling_cmp}
use Rattle.tc_restart.proofs.Tops.{popped_done}
use Rattle.tc_restart.proofs.heaps.Heaps.ended.Goals as goal

-- no element of a heap is greater than the one that came out
greatest : (xs ys : List (Reverse ℕ)) (r : Option (Reverse ℕ)) → IsHeap falling_cmp xs
    → IfSome r (λ x. PopsGreatest falling_cmp xs x ys)
    → IfSome r (λ x. IsUpperBound falling_cmp x xs)
greatest xs ys (Some x) h pops = (pops h).1
greatest xs ys None h pops = tt

empty : (xs : List (Reverse ℕ)) (n : ℕ) (r : Option (Reverse ℕ)) → n ≡ length xs → IfNone r (n ≡ 0) → IfNone r (xs ≡ [])
empty xs n (Some x) same none = tt
empty xs n None same none = nil_from_length xs (omega (arith, same, none))

pub returns-clause-taken : goal.returns-clause-taken
returns-clause-taken c =
    let old : Heaps = c.args.self.now in
    let new : Heaps = record { below = old.below; undoing = old.undoing; done = c.pop.new.self } in
    popped_done old new c.pop.result refl refl c.pop.ensures.permutation
    (greatest (heap_items old.done) (heap_items c.pop.new.self) c.pop.result c.requires.done c.pop.ensures.heap_order)
    (empty (heap_items old.done) old.done.data.len c.pop.result (grind (arith, common_steps)) c.pop.ensures.none)
