-- The place of a key's leaf, where leaves are held in things of any kind.
use Rattle.std.proofs.Common.{◌≡◌, ℕ, zero, suc, ◌+◌, ◌<◌, ◌≤◌, Bool, true, false, List, [], ◌∷◌, length, get_or, set, map, Option, Some, None, refl, sym, ap, ◌∙◌, subst, arith, inl, inr, true≢false, add-one}
use Rattle.std.specs.Prelude.{not}
use Rattle.std.specs.List.{insert, remove}
use Rattle.std.proofs.lemmas.List.{length-map}
use Rattle.std.specs.List.Sorted.{IsPartitionedBy, IsPartitionPoint}
use Rattle.std.proofs.lemmas.Bool.{cases_Bool, and_parts, not-true, false_from_ne_true}
use Rattle.record_key.specs.declared.op.Op.{Op}
use Rattle.record_key.specs.declared.op.Answer.{Answer}
use Rattle.record_key.specs.Table.{Bytes, key_of}
use Rattle.record_key.specs.Order.{is_below, starts_at_most, ends_above}
use Rattle.dc_ab_lsn.specs.AbLsn.{captures}
use Rattle.dc_leaf.specs.declared.leaf.Done.{Done}
use Rattle.dc_leaf.specs.Leaf.{LeafView, first, is_in_fences, performed}
use Rattle.dc_leaf.specs.Parting.{lower_of, upper_of, joined_of}
use Rattle.dc_leaf.specs.Performs.{Performs}
use Rattle.dc_leaf.specs.Tiles.{parts_of, TileFrom}
use Rattle.dc_leaf.proofs.Halves.{below_trans}
use Rattle.dc_tree.specs.Leaves.{AreLeaves, leaf_at, place_at, changed_at}
use Rattle.dc_tree.specs.Parting.{middle, may_split_at, may_merge_at, split_at, merged_at}
use Rattle.dc_tree.specs.Performs.{PerformsAt}
use Rattle.dc_tree.proofs.Tiling.{IsLast, GoesOn, cases_tile, where_lies, there_from, starts_later}

module _ {X : Type 0} (leaf_of : X → LeafView) where
  -- all keys of the leaf are below this one
  abbrev pub lies_under : Bytes → X → Bool
  lies_under k x = not (ends_above (leaf_of x).high_fence k)

  -- ---- how leaves end

  pub none_there : (xs : List X) (j : ℕ) → map leaf_of xs ≡ [] → j < length xs → ⊥
  none_there [] j alone within = omega (arith, within)
  none_there (x ∷ xs) j alone within = let no : leaf_of x ∷ map leaf_of xs ≡ [] = alone in cc

  -- where a later leaf ends at most at a key, those after a fence begin at most there
  past_fence : (fence : Bytes) (xs : List X) (j : ℕ) (d : X) (k : Bytes)
      → TileFrom (Some fence) (parts_of (map leaf_of xs)) → j < length xs
      → lies_under k (get_or xs j d) ≡ true → is_below k fence ≡ false
  past_fence fence [] j d k tile within under = absurd tile
  past_fence fence (x ∷ xs) j d k tile within under =
      elim (cases_tile (Some fence) (leaf_of x) (map leaf_of xs) tile) [
        | inl last ↦ absurd (never j within under last)
        | inr on ↦ false_from_ne_true
            _ (λ below. true≢false (sym (below_trans k fence on.fence below on.above)
            ∙ later j within under on (past_fence on.fence xs)))
      ]
    where
      never : (j : ℕ) → j < length (x ∷ xs) → lies_under k (get_or (x ∷ xs) j d) ≡ true
          → IsLast (Some fence) (leaf_of x) (map leaf_of xs) → ⊥
      never zero within under last =
          true≢false (sym (subst (λ (f : Option Bytes). not (ends_above f k) ≡ true) last.ends under))
      never (suc j) within under last = none_there xs j last.alone (omega (arith, within))

      later : (j : ℕ) → j < length (x ∷ xs) → lies_under k (get_or (x ∷ xs) j d) ≡ true
          → (on : GoesOn (Some fence) (leaf_of x) (map leaf_of xs))
          → ((j : ℕ) (d : X) (k : Bytes) → TileFrom (Some on.fence) (parts_of (map leaf_of xs)) → j < length xs
          → lies_under k (get_or xs j d) ≡ true → is_below k on.fence ≡ false)
          → is_below k on.fence ≡ false
      later zero within under on again =
          not-true (is_below k on.fence) (subst (λ (f : Option Bytes). not (ends_above f k) ≡ true) on.ends under)
      later (suc j) within under on again = again j d k on.later (omega (arith, within)) under

  -- no leaf that ends at most at a key comes after one that ends above it
  pub ends_rise : (from : Option Bytes) (xs : List X) (k : Bytes) → TileFrom from (parts_of (map leaf_of xs))
      → IsPartitionedBy (lies_under k) xs
  ends_rise from [] k tile i j d le within under = absurd (omega (arith, within))
  ends_rise from (x ∷ xs) k tile zero zero d le within under = under
  ends_rise from (x ∷ xs) k tile (suc i) zero d le within under = absurd (omega (arith, le))
  ends_rise from (x ∷ xs) k tile zero (suc j) d le within under =
      elim (cases_tile from (leaf_of x) (map leaf_of xs) tile) [
        | inl last ↦ absurd (none_there xs j last.alone (omega (arith, within)))
        | inr on ↦
            let past : is_below k on.fence ≡ false =
            past_fence on.fence xs j d k on.later (omega (arith, within)) under in
            rw (on.ends, past) refl
      ]
  ends_rise from (x ∷ xs) k tile (suc i) (suc j) d le within under =
      elim (cases_tile from (leaf_of x) (map leaf_of xs) tile) [
        | inl last ↦ absurd (none_there xs j last.alone (omega (arith, within)))
        | inr on ↦ ends_rise (Some on.fence) xs k on.later i j d (omega (arith, le)) (omega (arith, within)) under
      ]

  -- ---- the place between those that end at most at a key and those that end above it

  pub place_parted : (from : Option Bytes) (xs : List X) (k : Bytes) (p : ℕ) → TileFrom from (parts_of (map leaf_of xs))
      → starts_at_most from k ≡ true
      → IsPartitionPoint (λ (x : X). lies_under k x ≡ true) (λ (x : X). lies_under k x ≡ false) xs p → p ≤ length xs
      → p ≡ place_at (map leaf_of xs) k
  place_parted from [] k p tile starts parted within = absurd tile
  place_parted from (x ∷ xs) k p tile starts parted within =
      elim (where_lies from (leaf_of x) (map leaf_of xs) k tile starts) [
        | inl here ↦ rw here (first p parted (and_parts (starts_at_most (leaf_of x).low_fence k) _ here).1)
        | inr later ↦
            rw later.outside
            (after p parted within (rw (later.on.ends) later.past)
            (λ q parted within. place_parted (Some later.on.fence) xs k q later.on.later
            (starts_later k later.on.fence later.past) parted within))
      ]
    where
      first : (p : ℕ)
          → IsPartitionPoint (λ (x : X). lies_under k x ≡ true) (λ (x : X). lies_under k x ≡ false) (x ∷ xs) p
          → ends_above (leaf_of x).high_fence k ≡ true → p ≡ 0
      first zero parted ends = refl
      first (suc p) parted ends = absurd (true≢false (sym (parted.0 0 x (omega arith) (omega arith)) ∙ ap not ends))

      after : (p : ℕ)
          → IsPartitionPoint (λ (x : X). lies_under k x ≡ true) (λ (x : X). lies_under k x ≡ false) (x ∷ xs) p
          → p ≤ length (x ∷ xs)
          → ends_above (leaf_of x).high_fence k ≡ false
          → ((q : ℕ) → IsPartitionPoint (λ (x : X). lies_under k x ≡ true) (λ (x : X). lies_under k x ≡ false) xs q → q
          ≤ length xs → q ≡ place_at (map leaf_of xs) k)
          → p ≡ place_at (map leaf_of xs) k + 1
      after zero parted within ends again =
          absurd (true≢false (sym (ap not ends) ∙ parted.1 0 x (omega arith) (omega arith)))
      after (suc p) parted within ends again =
          let same : p ≡ place_at (map leaf_of xs) k = again p (
            (λ j d le lt. parted.0 (suc j) d (omega arith) (omega (arith, lt))),
            (λ j d le lt. parted.1 (suc j) d (omega (arith, le)) (omega (arith, lt))),
          ) (omega (arith, within)) in
          omega (arith, same)

  -- ---- what stands at a key's place

  pub there_in : (xs : List X) (k : Bytes) → AreLeaves (map leaf_of xs) → place_at (map leaf_of xs) k < length xs
  there_in xs k kept =
      let less : place_at (map leaf_of xs) k < length (map leaf_of xs) =
      there_from None (map leaf_of xs) k kept.tile refl in
      omega (arith, less, length-map xs leaf_of)

  pub leaf_there : (xs : List X) (k : Bytes) (d : X) → place_at (map leaf_of xs) k < length xs
      → leaf_of (get_or xs (place_at (map leaf_of xs) k) d) ≡ leaf_at (map leaf_of xs) k
  leaf_there [] k d within = absurd (omega (arith, within))
  leaf_there (x ∷ xs) k d within =
      elim (cases_Bool (is_in_fences (leaf_of x) k)) [
        | inl here ↦ rw here refl
        | inr later ↦
            let less : place_at (map leaf_of xs) k + 1 < length (x ∷ xs) = rw later at within in
            rw (later, add-one) (leaf_there xs k d (omega (arith, less)))
      ]

  pub found : (xs : List X) (k : Bytes) (p : ℕ) (x : X) → AreLeaves (map leaf_of xs) → p ≡ place_at (map leaf_of xs) k
      → x ≡ get_or xs p x
      → leaf_of x ≡ leaf_at (map leaf_of xs) k
  found xs k p x kept at is =
      ap leaf_of (is ∙ ap (λ (q : ℕ). get_or xs q x) at) ∙ leaf_there xs k x (there_in xs k kept)

  -- the leaf there changed
  pub changed_there : (change : LeafView → LeafView) (xs : List X) (k : Bytes) (x : X)
      → place_at (map leaf_of xs) k < length xs
      → leaf_of x ≡ change (leaf_at (map leaf_of xs) k)
      → map leaf_of (set xs (place_at (map leaf_of xs) k) x) ≡ changed_at k change (map leaf_of xs)
  changed_there change [] k x within is = absurd (omega (arith, within))
  changed_there change (y ∷ xs) k x within is =
      elim (cases_Bool (is_in_fences (leaf_of y) k)) [
        | inl here ↦ rw here (ap (λ (leaf : LeafView). leaf ∷ map leaf_of xs) (rw here at is))
        | inr later ↦
            let less : place_at (map leaf_of xs) k + 1 < length (y ∷ xs) = rw later at within in
            rw (later, add-one) (ap (λ (leaves : List LeafView). leaf_of y ∷ leaves)
            (changed_there change xs k x (omega (arith, less)) (rw later at is)))
      ]

  -- and put back as it was
  pub same_there : (xs : List X) (p : ℕ) (x d : X) → leaf_of x ≡ leaf_of (get_or xs p d)
      → map leaf_of (set xs p x) ≡ map leaf_of xs
  same_there [] p x d is = refl
  same_there (y ∷ xs) zero x d is = ap (λ (leaf : LeafView). leaf ∷ map leaf_of xs) is
  same_there (y ∷ xs) (suc p) x d is = ap (λ (leaves : List LeafView). leaf_of y ∷ leaves) (same_there xs p x d is)

  -- a request at the leaf there is one among the leaves
  pub performs_there : (xs : List X) (n : ℕ) (o : Op) (done : Done) (answer : Option Answer) (x : X)
      → place_at (map leaf_of xs) (key_of o) < length xs
      → Performs (leaf_at (map leaf_of xs) (key_of o)) n o done answer (leaf_of x)
      → PerformsAt (map leaf_of xs) n o done answer (map leaf_of (set xs (place_at (map leaf_of xs) (key_of o)) x))
  performs_there xs n o done answer x within performs =
      let leaf : LeafView = leaf_at (map leaf_of xs) (key_of o) in
      elim (cases_Bool (captures leaf.ab n)) [
        | inl captured ↦
            let repeated = rw captured at performs in
            rw captured (
              repeated.0,
              (
                repeated.1.0,
                same_there xs (place_at (map leaf_of xs) (key_of o)) x x
                    (repeated.1.1 ∙ sym (leaf_there xs (key_of o) x within)),
              ),
            )
        | inr out ↦
            let new = rw out at performs in
            rw out (
              new.0,
              (new.1.0, changed_there (λ leaf. performed leaf n o) xs (key_of o) x within new.1.1),
            )
      ]

  -- ---- what is put among them

  pub split_there : (xs : List X) (p id d : ℕ) (x y : X) (leaf : LeafView) → may_split_at (map leaf_of xs) p ≡ true
      → leaf ≡ get_or (map leaf_of xs) p first
      → leaf_of x ≡ lower_of leaf (middle leaf) d → leaf_of y ≡ upper_of leaf (middle leaf) id d
      → map leaf_of (insert (set xs p x) (suc p) y) ≡ split_at p id d (map leaf_of xs)
  split_there [] p id d x y leaf may at under from = absurd (true≢false (sym may))
  split_there (z ∷ xs) zero id d x y leaf may at under from =
      let lower : leaf_of x ≡ lower_of (leaf_of z) (middle (leaf_of z)) d =
      under ∙ ap (λ (l : LeafView). lower_of l (middle l) d) at in
      let upper : leaf_of y ≡ upper_of (leaf_of z) (middle (leaf_of z)) id d =
      from ∙ ap (λ (l : LeafView). upper_of l (middle l) id d) at in
      λ i. lower i ∷ upper i ∷ map leaf_of xs
  split_there (z ∷ xs) (suc p) id d x y leaf may at under from =
      ap (λ (leaves : List LeafView). leaf_of z ∷ leaves) (split_there xs p id d x y leaf may at under from)

  pub merge_there : (xs : List X) (p d : ℕ) (x : X) → may_merge_at (map leaf_of xs) p ≡ true
      → leaf_of x ≡ joined_of (get_or (map leaf_of xs) p first) (get_or (map leaf_of xs) (suc p) first) d
      → map leaf_of (remove (set xs p x) (suc p)) ≡ merged_at p d (map leaf_of xs)
  merge_there [] p d x may is = absurd (true≢false (sym may))
  merge_there (y ∷ []) p d x may is = absurd (true≢false (sym may))
  merge_there (y ∷ z ∷ xs) zero d x may is = ap (λ (leaf : LeafView). leaf ∷ map leaf_of xs) is
  merge_there (y ∷ z ∷ xs) (suc p) d x may is =
      ap (λ (leaves : List LeafView). leaf_of y ∷ leaves) (merge_there (z ∷ xs) p d x may is)
