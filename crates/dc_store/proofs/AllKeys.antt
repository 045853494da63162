-- The test whether leaves in a row have all keys among them, and that leaves in another order are the same leaves.
use Rattle.std.proofs.Common.{◌≡◌, ℕ, zero, suc, ◌+◌, ◌<◌, ◌≤◌, ◌==◌, Bool, true, false, cond, ◌&&◌, List, [], ◌∷◌, length, get_or, Box, Option, Some, None, is_some, refl, sym, ap, ◌∙◌, subst, inl, inr, true≢false, arith}
use Rattle.std.specs.declared.alloc.Global.{Global}
use Rattle.std.specs.List.{Contains, sum_by}
use Rattle.std.specs.List.Sorted.{IsPermutation}
use Rattle.std.specs.Cmp.{Equal-is}
use Rattle.std.specs.Ordering.{is_eq}
use Rattle.std.proofs.lemmas.Bool.{cases_Bool, and_parts, false≢true}
use Rattle.std.proofs.lemmas.Cmp.{nat_list_cmp_total, tied_itself}
use Rattle.std.proofs.lemmas.List.Sums.{sum_by-cons}
use Rattle.std.proofs.lemmas.List.Sorted.{IsPermutation-map, IsPermutation-sym, Contains-permutation, sum_by-IsPermutation}
use Rattle.dc_tree.specs.Lists.{leaf_of, leaves_in}
use Rattle.record_key.specs.Laws.{key_cmp}
use Rattle.record_key.specs.Table.{Bytes}
use Rattle.record_key.proofs.KeyOrder.{is_key_order}
use Rattle.dc_leaf.specs.Leaf.{LeafView}
use Rattle.dc_leaf.specs.Tiles.{parts_of, TileFrom}
use Rattle.dc_recovery.specs.Laws.{IsIn}
use Rattle.dc_leaf.proofs.Starts.{no_parts}
use Rattle.dc_recovery.proofs.Splitting.{Rest}
use Rattle.dc_store.specs.Arranging.{is_same_fence, ends_after, tiles_on, count_of, HaveOwnNumbers, AreSame, IsArrangement}
use Rattle.dc_store.proofs.InOrder.{Rise, sorted_same}

same_fence : (a b : Option Bytes) → is_same_fence a b ≡ true → b ≡ a
same_fence None None e = refl
same_fence None (Some b) e = absurd (false≢true e)
same_fence (Some a) None e = absurd (false≢true e)
same_fence (Some a) (Some b) e =
    ap (λ (k : Bytes). Some k) (sym (is_key_order.tied a b ((Equal-is (key_cmp a b)).0 e)))

fence_itself : (a : Option Bytes) → is_same_fence a a ≡ true
fence_itself None = refl
fence_itself (Some a) = ap is_eq (tied_itself nat_list_cmp_total a)

ended : (from : Option Bytes) (leaves : List LeafView) → tiles_on false from leaves ≡ true → parts_of leaves ≡ []
ended from [] h = refl
ended from (leaf ∷ leaves) h = absurd (false≢true h)

rest_from : (low high : Option Bytes) (leaves : List LeafView)
    → ((h : Bytes) → tiles_on true (Some h) leaves ≡ true → TileFrom (Some h) (parts_of leaves))
    → ends_after low high ≡ true → tiles_on (is_some high) high leaves ≡ true → Rest low high (parts_of leaves)
rest_from low None leaves more ends h = ended None leaves h
rest_from low (Some high) leaves more ends h = (ends, more high h)

-- leaves that pass the test have all keys
pub tiles_true : (leaves : List LeafView) (from : Option Bytes) → tiles_on true from leaves ≡ true
    → TileFrom from (parts_of leaves)
tiles_true [] from h = absurd (false≢true h)
tiles_true (leaf ∷ leaves) from h =
    let test : Bool = is_same_fence from leaf.low_fence && ends_after leaf.low_fence leaf.high_fence in
    elim (cases_Bool test) [
      | inl passes ↦
          let parts =
          and_parts (is_same_fence from leaf.low_fence) (ends_after leaf.low_fence leaf.high_fence) passes in (
            same_fence from leaf.low_fence parts.0,
            rest_from leaf.low_fence leaf.high_fence leaves (λ high. tiles_true leaves (Some high)) parts.1
                (rw passes at h),
          )
      | inr fails ↦ absurd (false≢true (rw fails at h))
    ]

on_rest : (low high : Option Bytes) (leaves : List LeafView)
    → ((h : Bytes) → TileFrom (Some h) (parts_of leaves) → tiles_on true (Some h) leaves ≡ true)
    → Rest low high (parts_of leaves)
    → (ends_after low high ≡ true) × (tiles_on (is_some high) high leaves ≡ true)
on_rest low None leaves more r =
    (refl, subst (λ (ls : List LeafView). tiles_on false None ls ≡ true) (sym (no_parts leaves r)) refl)
on_rest low (Some high) leaves more r = (r.0, more high r.1)

-- and leaves that have all keys pass it
pub tiles_pass : (leaves : List LeafView) (from : Option Bytes) → TileFrom from (parts_of leaves)
    → tiles_on true from leaves ≡ true
tiles_pass [] from tile = absurd tile
tiles_pass (leaf ∷ leaves) from tile =
    let same : is_same_fence from leaf.low_fence ≡ true =
    subst (λ (low : Option Bytes). is_same_fence from low ≡ true) (sym tile.0) (fence_itself from) in
    let rest = on_rest leaf.low_fence leaf.high_fence leaves (λ high. tiles_pass leaves (Some high)) tile.1 in
    rw (same, rest.0) rest.1

in_list : (xs : List LeafView) (x : LeafView) (k : ℕ) → k < length xs → get_or xs k x ≡ x → IsIn x xs
in_list [] x k lt is = absurd (omega (arith, lt))
in_list (y ∷ ys) x zero lt is = inl (sym is)
in_list (y ∷ ys) x (suc k) lt is = inr (in_list ys x k (omega (arith, lt)) is)

contains : (xs : List LeafView) (x : LeafView) → IsIn x xs → Contains xs x
contains [] x at = absurd at
contains (y ∷ ys) x (inl e) = (0, omega arith, sym e)
contains (y ∷ ys) x (inr at) =
    let there = contains ys x at in (suc there.0, omega (arith, there.1), there.2)

moved : (xs ys : List LeafView) (x : LeafView) → IsPermutation xs ys → IsIn x xs → IsIn x ys
moved xs ys x moves at =
    let there = Contains-permutation xs ys x moves (contains xs x at) in in_list ys x there.0 there.1 there.2

-- sorted leaves are the same leaves
pub same_leaves : (xs ys : List (Box LeafView Global)) → IsPermutation xs ys → AreSame (leaves_in xs) (leaves_in ys)
same_leaves xs ys moves =
    let leaves : IsPermutation (leaves_in xs) (leaves_in ys) = IsPermutation-map leaf_of xs ys moves in
    record {
      old_in = λ leaf at. moved (leaves_in xs) (leaves_in ys) leaf leaves at;
      new_in = λ leaf at.
          moved (leaves_in ys) (leaves_in xs) leaf (IsPermutation-sym (leaves_in xs) (leaves_in ys) leaves) at;
    }

abbrev one : ℕ → LeafView → ℕ
one id leaf = cond (leaf.id == id) 1 0

count_sum : (id : ℕ) (xs : List LeafView) → count_of id xs ≡ sum_by (one id) xs
count_sum id [] = refl
count_sum id (x ∷ xs) = ap (λ (n : ℕ). one id x + n) (count_sum id xs) ∙ sym (sum_by-cons (one id) x xs)

still_apart : (xs ys : List (Box LeafView Global)) → IsPermutation xs ys → HaveOwnNumbers (leaves_in xs)
    → HaveOwnNumbers (leaves_in ys)
still_apart xs ys moves apart id =
    let leaves : IsPermutation (leaves_in xs) (leaves_in ys) = IsPermutation-map leaf_of xs ys moves in
    let same : sum_by (one id) (leaves_in ys) ≡ sum_by (one id) (leaves_in xs) =
    sum_by-IsPermutation (one id) (leaves_in xs) (leaves_in ys) leaves in
    subst (λ (n : ℕ). n ≤ 1) (count_sum id (leaves_in xs) ∙ sym same ∙ sym (count_sum id (leaves_in ys))) (apart id)

-- where sorted leaves don't pass the test, no order of them has all keys
pub none_tile : (xs ys : List (Box LeafView Global)) → IsPermutation xs ys → HaveOwnNumbers (leaves_in xs)
    → Rise (leaves_in ys) → tiles_on true None (leaves_in ys) ≡ false
    → (row : List LeafView) → IsArrangement (leaves_in xs) row → ⊥
none_tile xs ys moves apart rise fails row is =
    let same = same_leaves xs ys moves in
    let one : row ≡ leaves_in ys =
    sorted_same row (leaves_in ys) None is.tile rise (still_apart xs ys moves apart)
    (λ z at. same.old_in z (is.same.new_in z at)) (λ z at. is.same.old_in z (same.new_in z at)) in
    let passes : tiles_on true None (leaves_in ys) ≡ true =
    subst (λ (leaves : List LeafView). tiles_on true None leaves ≡ true) one (tiles_pass row None is.tile) in
    true≢false (sym passes ∙ fails)
