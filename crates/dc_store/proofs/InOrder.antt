-- Leaves that are sorted by their low fences have all keys among them, if in some order they have.
use Rattle.std.proofs.Common.{◌≡◌, ℕ, suc, ◌+◌, ◌<◌, ◌≤◌, ◌==◌, Bool, true, false, List, [], ◌∷◌, length, get_or, Box, Option, Some, None, refl, sym, ap, ap₂, ◌∙◌, subst, inl, inr, true≢false, arith, eq-eqb}
use Rattle.std.specs.declared.alloc.Global.{Global}
use Rattle.std.specs.Option.{option_cmp}
use Rattle.std.specs.Ordering.{is_lt}
use Rattle.dc_tree.specs.Lists.{leaves_in}
use Rattle.record_key.specs.Laws.{key_cmp}
use Rattle.record_key.specs.Table.{Bytes}
use Rattle.dc_leaf.proofs.Halves.{below_free, free_below}
use Rattle.dc_leaf.specs.Leaf.{LeafView}
use Rattle.dc_leaf.specs.Tiles.{parts_of, starts_below, TileFrom}
use Rattle.dc_recovery.specs.Laws.{IsIn}
use Rattle.dc_recovery.proofs.Arranged.{IsFrom, later, all_from, same_rest}
use Rattle.dc_leaf.proofs.Starts.{no_parts}
use Rattle.dc_recovery.proofs.Splitting.{Rest}
use Rattle.dc_store.specs.Arranging.{count_of, HaveOwnNumbers}

-- one fence is below another; where there is none it is below each key
abbrev pub fence_below : Option Bytes → Option Bytes → Bool
fence_below a b = is_lt (option_cmp key_cmp a b)

-- no leaf begins below the one before it
abbrev pub Rise : List LeafView → Type 0
Rise [] = Unit {0}
Rise (x ∷ []) = Unit {0}
Rise (x ∷ (y ∷ xs)) = (fence_below y.low_fence x.low_fence ≡ false) × Rise (y ∷ xs)

-- so are boxes of which none has a leaf that begins below the one before it
pub rise_from : (bs : List (Box LeafView Global))
    → ((k : ℕ) (d : Box LeafView Global) → suc k < length bs
    → fence_below (get_or bs (suc k) d).value.low_fence (get_or bs k d).value.low_fence ≡ false)
    → Rise (leaves_in bs)
rise_from [] up = tt
rise_from (b ∷ []) up = tt
rise_from (b ∷ (c ∷ bs)) up =
    (up 0 b (omega arith), rise_from (c ∷ bs) (λ k d lt. up (suc k) d (omega (arith, lt))))

fence_trans : (c b a : Option Bytes) → fence_below c b ≡ false → fence_below b a ≡ false → fence_below c a ≡ false
fence_trans None b None cb ba = refl
fence_trans (Some c) b None cb ba = refl
fence_trans None None (Some a) cb ba = absurd (true≢false ba)
fence_trans None (Some b) (Some a) cb ba = absurd (true≢false cb)
fence_trans (Some c) None (Some a) cb ba = absurd (true≢false ba)
fence_trans (Some c) (Some b) (Some a) cb ba = free_below c b a cb ba

-- the first begins lowest
least : (x z : LeafView) (xs : List LeafView) → Rise (x ∷ xs) → IsIn z xs
    → fence_below z.low_fence x.low_fence ≡ false
least x z [] rise at = absurd at
least x z (y ∷ ys) rise (inl e) =
    subst (λ (l : LeafView). fence_below l.low_fence x.low_fence ≡ false) (sym e) rise.0
least x z (y ∷ ys) rise (inr at) =
    fence_trans z.low_fence y.low_fence x.low_fence (least y z ys rise.1 at) rise.0

rise_tail : (x : LeafView) (xs : List LeafView) → Rise (x ∷ xs) → Rise xs
rise_tail x [] rise = tt
rise_tail x (y ∷ ys) rise = rise.1

-- what begins at a key or later begins after what begins below the key
begins_after : (low other : Option Bytes) (h : Bytes) → starts_below low h ≡ true → IsFrom h other
    → fence_below low other ≡ true
begins_after None other h above f = rw f.is refl
begins_after (Some low) other h above f = rw f.is (below_free low h f.key above f.above)

-- a later leaf of those that tile the keys begins after the first
after_first : (x y : LeafView) (xs : List LeafView) → Rest x.low_fence x.high_fence (parts_of xs) → IsIn y xs
    → fence_below x.low_fence y.low_fence ≡ true
after_first x y xs r at =
    let l = later x.low_fence x.high_fence y xs r at in
    begins_after x.low_fence y.low_fence l.key l.above (all_from l.key xs y l.tile at)

-- a leaf that stands there is counted
counted : (z : LeafView) (xs : List LeafView) → IsIn z xs → 1 ≤ count_of z.id xs
counted z [] at = absurd at
counted z (x ∷ xs) (inl e) =
    let here : (x.id == z.id) ≡ true = eq-eqb x.id z.id (ap (λ (l : LeafView). l.id) (sym e)) in
    rw here (omega arith)
counted z (x ∷ xs) (inr at) = omega (arith, counted z xs at)

apart_tail : (x : LeafView) (xs : List LeafView) → HaveOwnNumbers (x ∷ xs) → HaveOwnNumbers xs
apart_tail x xs apart id = omega (arith, apart id)

not_twice : (x z : LeafView) (xs : List LeafView) → HaveOwnNumbers (x ∷ xs) → z ≡ x → IsIn z xs → ⊥
not_twice x z xs apart e at =
    let here : (x.id == z.id) ≡ true = eq-eqb x.id z.id (ap (λ (l : LeafView). l.id) (sym e)) in
    let twice : 1 + count_of z.id xs ≤ 1 = rw here at (apart z.id) in
    omega (arith, twice, counted z xs at)

no_leaves : (ys : List LeafView) → ((z : LeafView) → IsIn z ys → ⊥) → ys ≡ []
no_leaves [] none = refl
no_leaves (y ∷ ys) none = absurd (none y (inl refl))

same_after : (low high : Option Bytes) (xs ys : List LeafView)
    → ((h : Bytes) → TileFrom (Some h) (parts_of xs) → xs ≡ ys)
    → ((z : LeafView) → IsIn z ys → IsIn z xs) → Rest low high (parts_of xs) → xs ≡ ys
same_after low None xs ys same back r =
    let none : xs ≡ [] = no_parts xs r in
    none ∙ sym (no_leaves ys (λ z at. subst (IsIn z) none (back z at)))
same_after low (Some h) xs ys same back r = same h r.1

-- leaves that tile the keys stand in the order of their low fences
pub sorted_same : (xs ys : List LeafView) (from : Option Bytes) → TileFrom from (parts_of xs) → Rise ys → HaveOwnNumbers ys
    → ((z : LeafView) → IsIn z xs → IsIn z ys)
    → ((z : LeafView) → IsIn z ys → IsIn z xs) → xs ≡ ys
sorted_same [] ys from tile rise apart to back = absurd tile
sorted_same (x ∷ xs) [] from tile rise apart to back = absurd (to x (inl refl))
sorted_same (x ∷ xs) (y ∷ ys) from tile rise apart to back =
    let e : x ≡ y =
    elim (to x (inl refl)) [
      | inl same ↦ same
      | inr behind ↦
          elim (back y (inl refl)) [
            | inl same ↦ sym same
            | inr ahead ↦
                absurd (true≢false (sym (after_first x y xs tile.1 ahead) ∙ least y x ys rise behind))
          ]
    ] in
    let still : (z : LeafView) → IsIn z ys → IsIn z xs = λ z at.
    elim (back z (inr at)) [ inl same ↦ absurd (not_twice y z ys apart (same ∙ e) at) | inr there ↦ there ] in
    ap₂ (λ (l : LeafView) (ls : List LeafView). l ∷ ls) e
    (same_after x.low_fence x.high_fence xs ys
    (λ h rest. sorted_same xs ys (Some h) rest (rise_tail y ys rise) (apart_tail y ys apart)
    (same_rest x y xs ys tile.1 e to) still)
    still tile.1)
