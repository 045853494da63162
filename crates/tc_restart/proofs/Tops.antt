-- What the top of a heap of losers is.
use Rattle.std.proofs.Common.{◌≡◌, ℕ, ◌≤◌, false, List, [], ◌∷◌, map, Option, Some, None, ap, inl, inr, true≢false}
use Rattle.std.specs.Prelude.{IfSome, IfNone}
use Rattle.std.specs.BinaryHeap.{IsUpperBound, heap_items}
use Rattle.std.specs.List.{All}
use Rattle.std.specs.List.Sorted.{IsPermutation}
use Rattle.std.specs.Ordering.{is_lt}
use Rattle.std.specs.declared.cmp.Reverse.{Reverse}
use Rattle.std.proofs.lemmas.Bool.{cases_lt, lt-ltb}
use Rattle.std.proofs.lemmas.List.Elements.{All-from_recursion, All-weaker, All-map}
use Rattle.std.proofs.lemmas.List.Sorted.{IsPermutation-map}
use Rattle.tc_restart.specs.declared.loser.Loser.{Loser}
use Rattle.tc_restart.specs.declared.heaps.Heaps.{Heaps}
use Rattle.tc_restart.specs.Heaps.{loser_cmp, falling_cmp, seen}
use Rattle.tc_restart.specs.Losers.{TakesEnd}
use Rattle.tc_restart.proofs.Taking.{takes_end, takes_no_end}

-- what isn't below another has at least as much left
not_below : (x y : Loser) → is_lt (loser_cmp x y) ≡ false → y.left ≤ x.left
not_below x y h =
    elim (cases_lt x.left y.left) [
      | inl less ↦ absurd (true≢false (rw (lt-ltb x.left y.left less) at h))
      | inr h ↦ h
    ]

not_above : (x y : Reverse ℕ) → is_lt (falling_cmp x y) ≡ false → x.0 ≤ y.0
not_above x y h =
    elim (cases_lt y.0 x.0) [
      | inl less ↦ absurd (true≢false (rw (lt-ltb y.0 x.0 less) at h))
      | inr h ↦ h
    ]

pub top_left : (x : Loser) (xs : List Loser) → IsUpperBound loser_cmp x xs → All (λ (y : Loser). y.left ≤ x.left) xs
top_left x xs h =
    All-weaker (λ y. is_lt (loser_cmp x y) ≡ false) (λ (y : Loser). y.left ≤ x.left) (not_below x) xs
    (All-from_recursion (λ y. is_lt (loser_cmp x y) ≡ false) xs h)

pub top_done : (x : Reverse ℕ) (xs : List (Reverse ℕ)) → IsUpperBound falling_cmp x xs
    → All (λ u. x.0 ≤ u) (map (λ (y : Reverse ℕ). y.0) xs)
top_done x xs h =
    All-map (λ u. x.0 ≤ u) (λ (y : Reverse ℕ). y.0) xs
    (All-weaker (λ y. is_lt (falling_cmp x y) ≡ false) (λ (y : Reverse ℕ). x.0 ≤ y.0) (not_above x) xs
    (All-from_recursion (λ y. is_lt (falling_cmp x y) ≡ false) xs h))

-- the least that is done was taken out, or none is
pub popped_done : (old new : Heaps) (r : Option (Reverse ℕ)) → new.below ≡ old.below → new.undoing ≡ old.undoing
    → IfSome r (λ x. IsPermutation (heap_items old.done) (x ∷ heap_items new.done))
    → IfSome r (λ x. IsUpperBound falling_cmp x (heap_items old.done))
    → IfNone r (heap_items old.done ≡ []) → TakesEnd (seen old) (seen new)
popped_done old new (Some x) below undoing same top none =
    takes_end (seen old) (seen new) x.0 below (ap heap_items undoing)
    (IsPermutation-map (λ (y : Reverse ℕ). y.0) (heap_items old.done) (x ∷ heap_items new.done) same)
    (top_done x (heap_items old.done) top)
popped_done old new None below undoing same top none = takes_no_end (seen old) (seen new)
    (ap (map (λ (y : Reverse ℕ). y.0)) none)
