-- The place of a key among the leaves below nodes.
use Rattle.std.proofs.Common.{◌≡◌, ℕ, zero, suc, ◌+◌, ◌<◌, true, false, List, [], ◌∷◌, length, get_or, take, Option, Some, None, refl, sym, ap, ◌∙◌, subst, arith, inl, inr, true≢false}
use Rattle.std.proofs.lemmas.Bool.{cases_lt, and_parts}
use Rattle.record_key.specs.Table.{Bytes}
use Rattle.record_key.specs.Order.{is_below, starts_at_most, ends_above}
use Rattle.dc_leaf.specs.Leaf.{LeafView, first, is_in_fences}
use Rattle.dc_leaf.specs.Tiles.{parts_of, TileFrom}
use Rattle.dc_leaf.proofs.Halves.{below_trans}
use Rattle.dc_tree.specs.Leaves.{AreLeaves, place_at}
use Rattle.dc_tree.specs.Nodes.{TreeNodeView, nothing, under, low_of, AreChildren, IsChild}
use Rattle.dc_tree.specs.Finding.{IsIn, IsInside, IsNodeOf, IsPlaceOf, IsLeafOf}
use Rattle.dc_tree.proofs.AtPlace.{leaf_in, place_there}
use Rattle.dc_tree.proofs.Tiling.{LiesLater, cases_tile, where_lies, starts_later}
use Rattle.dc_tree.proofs.Under.{count_more, lies_later}
use Rattle.dc_tree.proofs.Whole.{all_get}

low_first : (leaves : List LeafView) → 0 < length leaves → low_of leaves ≡ (get_or leaves 0 first).low_fence
low_first [] some = absurd (omega (arith, some))
low_first (leaf ∷ leaves) some = refl

module _ (height : ℕ) (ns : List TreeNodeView) (k : Bytes) (i q : ℕ) (are : AreChildren height ns) (node : IsNodeOf ns k i)
    (at : IsPlaceOf (get_or ns i nothing).leaves k q) where
  abbrev p : ℕ
  p = length (under (take i ns)) + q

  pub here : IsIn ns p i q
  here = record { there = node.there; within = at.there; is = refl }

  some_in : (j : ℕ) → j < length ns → 0 < length (get_or ns j nothing).leaves
  some_in j there = (all_get (IsChild height) ns j nothing there are).whole.some

  starts_here : (r : ℕ) → r ≡ q → 0 < p
      → starts_at_most (get_or (get_or ns i nothing).leaves q first).low_fence k ≡ true
  starts_here zero is some =
      let low = low_first (get_or ns i nothing).leaves (some_in i node.there) in
      subst (λ (r : ℕ). starts_at_most (get_or (get_or ns i nothing).leaves r first).low_fence k ≡ true) is
      (ap (λ low. starts_at_most low k) (sym low) ∙ node.starts (before i (omega (arith, some, is))))
    where
      before : (j : ℕ) → 0 < length (under (take j ns)) → 0 < j
      before zero some = absurd (omega (arith, some))
      before (suc j) some = omega arith
  starts_here (suc r) is some = at.starts (omega (arith, is))

  ends_here : suc p < length (under ns) → starts_at_most (get_or (under ns) (suc p) first).low_fence k ≡ false
  ends_here more =
      elim (cases_lt (suc q) (length (get_or ns i nothing).leaves)) [
        | inl less ↦
            let later : IsIn ns (suc p) i (suc q) = record { there = node.there; within = less; is = omega arith } in
            ap (λ (leaf : LeafView). starts_at_most leaf.low_fence k) (leaf_in ns (suc p) i (suc q) later)
            ∙ at.ends less
        | inr last ↦
            let next : suc i < length ns = lies_later ns i (suc p) nothing node.there more (omega (arith, last)) in
            let later : IsIn ns (suc p) (suc i) 0 =
            record {
              there = next;
              within = some_in (suc i) next;
              is = omega (arith, count_more ns i nothing node.there, last, at.there);
            } in
            ap (λ (leaf : LeafView). starts_at_most leaf.low_fence k) (leaf_in ns (suc p) (suc i) 0 later)
            ∙ ap (λ low. starts_at_most low k)
            (sym (low_first (get_or ns (suc i) nothing).leaves (some_in (suc i) next)))
            ∙ node.ends next
      ]

  pub place_within : p < length (under ns)
  place_within = place_there ns p i q here

  pub place_of_nodes : IsPlaceOf (under ns) k p
  place_of_nodes = record {
    there = place_within;
    starts = λ some. ap (λ (leaf : LeafView). starts_at_most leaf.low_fence k) (leaf_in ns p i q here)
        ∙ starts_here q refl some;
    ends = ends_here;
  }

  pub inside_of_nodes : IsInside (under ns) k → is_in_fences (get_or (get_or ns i nothing).leaves q first) k ≡ true
  inside_of_nodes inside =
      ap (λ (leaf : LeafView). is_in_fences leaf k) (sym (leaf_in ns p i q here)) ∙ inside p place_of_nodes

  pub leaf_of_nodes : (leaf : LeafView) → leaf ≡ get_or (get_or ns i nothing).leaves q first
      → IsLeafOf (under ns) k leaf
  leaf_of_nodes leaf is = record { place = p; at = place_of_nodes; is = is ∙ sym (leaf_in ns p i q here) }

-- ---- among leaves that have all keys among them it is the place of the leaf that has the key

-- where a key is below a fence, no leaf from that fence on begins at it or below
none_begins : (fence : Bytes) (leaves : List LeafView) (q : ℕ) (k : Bytes) → TileFrom (Some fence) (parts_of leaves)
    → q < length leaves → is_below k fence ≡ true
    → starts_at_most (get_or leaves q first).low_fence k ≡ false
none_begins fence [] q k tile within below = absurd tile
none_begins fence (leaf ∷ leaves) zero k tile within below = rw (tile.0, below) refl
none_begins fence (leaf ∷ leaves) (suc q) k tile within below =
    elim (cases_tile (Some fence) leaf leaves tile) [
      | inl last ↦ absurd (omega (arith, within, ap length last.alone))
      | inr on ↦ none_begins on.fence leaves q k on.later (omega (arith, within))
          (below_trans k fence on.fence below on.above)
    ]

module _ (from : Option Bytes) (leaf : LeafView) (leaves : List LeafView) (k : Bytes)
    (tile : TileFrom from (parts_of (leaf ∷ leaves))) where
  in_first : (p : ℕ) → IsPlaceOf (leaf ∷ leaves) k p → is_in_fences leaf k ≡ true → p ≡ 0
  in_first zero at holds = refl
  in_first (suc q) at holds =
      elim (cases_tile from leaf leaves tile) [
        | inl last ↦ absurd (omega (arith, at.there, ap length last.alone))
        | inr on ↦
            let below : is_below k on.fence ≡ true =
            subst (λ (high : Option Bytes). ends_above high k ≡ true) on.ends
            (and_parts (starts_at_most leaf.low_fence k) _ holds).1 in
            absurd (true≢false (sym (at.starts (omega arith))
            ∙ none_begins on.fence leaves q k on.later (omega (arith, at.there)) below))
      ]

  next_begins : (rest : List LeafView) (fence : Bytes) → TileFrom (Some fence) (parts_of rest)
      → is_below k fence ≡ false
      → (0 < length rest) × (starts_at_most (get_or rest 0 first).low_fence k ≡ true)
  next_begins [] fence later past = absurd later
  next_begins (next ∷ rest) fence later past = (omega arith, rw later.0 (starts_later k fence past))

  in_later : (p : ℕ) → IsPlaceOf (leaf ∷ leaves) k p → LiesLater from leaf leaves k
      → ((q : ℕ) → IsPlaceOf leaves k q → q ≡ place_at leaves k) → p ≡ place_at leaves k + 1
  in_later zero at later again =
      let begins = next_begins leaves later.on.fence later.on.later later.past in
      absurd (true≢false (sym begins.1 ∙ at.ends (omega (arith, begins.0))))
  in_later (suc q) at later again =
      let same : q ≡ place_at leaves k = again q (record {
        there = omega (arith, at.there);
        starts = λ some. at.starts (omega arith);
        ends = λ more. at.ends (omega (arith, more));
      }) in
      omega (arith, same)

found_from : (from : Option Bytes) (leaves : List LeafView) (k : Bytes) (p : ℕ) → TileFrom from (parts_of leaves)
    → starts_at_most from k ≡ true → IsPlaceOf leaves k p
    → p ≡ place_at leaves k
found_from from [] k p tile starts at = absurd tile
found_from from (leaf ∷ leaves) k p tile starts at =
    elim (where_lies from leaf leaves k tile starts) [
      | inl holds ↦ rw holds (in_first from leaf leaves k tile p at holds)
      | inr later ↦
          rw later.outside
          (in_later from leaf leaves k tile p at later
          (λ q found. found_from (Some later.on.fence) leaves k q later.on.later
          (starts_later k later.on.fence later.past) found))
    ]

pub place_found : (leaves : List LeafView) (k : Bytes) (p : ℕ) → AreLeaves leaves → IsPlaceOf leaves k p
    → p ≡ place_at leaves k
place_found leaves k p kept at = found_from None leaves k p kept.tile refl at
