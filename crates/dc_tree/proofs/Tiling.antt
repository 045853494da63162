-- Leaves that divide all keys among them, from the first of them on.
use Rattle.std.proofs.Common.{◌≡◌, ◌⊎◌, ◌<◌, true, false, List, [], ◌∷◌, length, Option, Some, None, MatchOption, refl, ◌∙◌, subst, arith, inl, inr}
use Rattle.std.proofs.lemmas.Bool.{cases_Bool, and_parts, not_from_false, not-true, and_right}
use Rattle.record_key.specs.Table.{Bytes}
use Rattle.record_key.specs.Order.{is_below, starts_at_most, ends_above}
use Rattle.dc_leaf.specs.Leaf.{LeafView, is_in_fences}
use Rattle.dc_leaf.specs.Tiles.{parts_of, starts_below, TileFrom}
use Rattle.dc_leaf.proofs.Halves.{from_low}
use Rattle.dc_leaf.proofs.Starts.{starts_weaker, no_parts}
use Rattle.dc_tree.specs.Leaves.{leaf_at, place_at}

-- ---- the first leaf, and those after it

-- the first is the last one
pub record IsLast (from : Option Bytes) (leaf : LeafView) (rest : List LeafView) : Type 0 where
  pub begins : leaf.low_fence ≡ from
  pub ends : leaf.high_fence ≡ None
  pub alone : rest ≡ []

-- others follow it
pub record GoesOn (from : Option Bytes) (leaf : LeafView) (rest : List LeafView) : Type 0 where
  pub fence : Bytes
  pub begins : leaf.low_fence ≡ from
  pub ends : leaf.high_fence ≡ Some fence
  pub above : starts_below from fence ≡ true
  pub later : TileFrom (Some fence) (parts_of rest)

pub cases_tile : (from : Option Bytes) (leaf : LeafView) (rest : List LeafView) → TileFrom from (parts_of (leaf ∷ rest))
    → IsLast from leaf rest ⊎ GoesOn from leaf rest
cases_tile from leaf rest tile =
    pick leaf.high_fence refl tile.1
  where
    pick : (high : Option Bytes) → leaf.high_fence ≡ high
        → MatchOption high (parts_of rest ≡ [])
        (λ fence. (starts_below leaf.low_fence fence ≡ true) × TileFrom (Some fence) (parts_of rest))
        → IsLast from leaf rest ⊎ GoesOn from leaf rest
    pick None is alone = inl (record { begins = tile.0; ends = is; alone = no_parts rest alone })
    pick (Some fence) is on =
        inr (record {
          fence = fence;
          begins = tile.0;
          ends = is;
          above = subst (λ (low : Option Bytes). starts_below low fence ≡ true) tile.0 on.0;
          later = on.1;
        })

pub tile_last : (from : Option Bytes) (leaf : LeafView) → leaf.low_fence ≡ from → leaf.high_fence ≡ None
    → TileFrom from (parts_of (leaf ∷ []))
tile_last from leaf begins ends = (begins, rw ends refl)

pub tile_on : (from : Option Bytes) (leaf : LeafView) (rest : List LeafView) (fence : Bytes) → leaf.low_fence ≡ from
    → leaf.high_fence ≡ Some fence
    → starts_below from fence ≡ true → TileFrom (Some fence) (parts_of rest) → TileFrom from (parts_of (leaf ∷ rest))
tile_on from leaf rest fence begins ends above later = (begins, rw (ends, begins) (above, later))

-- ---- where a key lies

-- a key that isn't in the first leaf lies in those after it
pub record LiesLater (from : Option Bytes) (leaf : LeafView) (rest : List LeafView) (k : Bytes) : Type 0 where
  pub on : GoesOn from leaf rest
  pub past : is_below k on.fence ≡ false
  pub outside : is_in_fences leaf k ≡ false

in_last : (from : Option Bytes) (leaf : LeafView) (rest : List LeafView) (k : Bytes) → IsLast from leaf rest
    → starts_at_most from k ≡ true → is_in_fences leaf k ≡ true
in_last from leaf rest k last starts = rw (last.begins, last.ends, starts) refl

in_first : (from : Option Bytes) (leaf : LeafView) (rest : List LeafView) (k : Bytes) (on : GoesOn from leaf rest)
    → starts_at_most from k ≡ true
    → is_in_fences leaf k ≡ is_below k on.fence
in_first from leaf rest k on starts = rw (on.begins, on.ends, starts) refl

pub where_lies : (from : Option Bytes) (leaf : LeafView) (rest : List LeafView) (k : Bytes)
    → TileFrom from (parts_of (leaf ∷ rest)) → starts_at_most from k ≡ true
    → (is_in_fences leaf k ≡ true) ⊎ LiesLater from leaf rest k
where_lies from leaf rest k tile starts =
    elim (cases_tile from leaf rest tile) [
      | inl last ↦ inl (in_last from leaf rest k last starts)
      | inr on ↦ elim (cases_Bool (is_below k on.fence)) [
        | inl under ↦ inl (in_first from leaf rest k on starts ∙ under)
        | inr past ↦ inr (record { on = on; past = past; outside = in_first from leaf rest k on starts ∙ past })
      ]
    ]

pub starts_later : (k fence : Bytes) → is_below k fence ≡ false → starts_at_most (Some fence) k ≡ true
starts_later k fence past = not_from_false (is_below k fence) past

pub within_from : (from : Option Bytes) (leaves : List LeafView) (k : Bytes) → TileFrom from (parts_of leaves)
    → starts_at_most from k ≡ true
    → is_in_fences (leaf_at leaves k) k ≡ true
within_from from [] k tile starts = absurd tile
within_from from (leaf ∷ leaves) k tile starts =
    elim (where_lies from leaf leaves k tile starts) [
      | inl here ↦ rw here here
      | inr later ↦ rw later.outside
          (within_from (Some later.on.fence) leaves k later.on.later (starts_later k later.on.fence later.past))
    ]

pub there_from : (from : Option Bytes) (leaves : List LeafView) (k : Bytes) → TileFrom from (parts_of leaves)
    → starts_at_most from k ≡ true
    → place_at leaves k < length leaves
there_from from [] k tile starts = absurd tile
there_from from (leaf ∷ leaves) k tile starts =
    elim (where_lies from leaf leaves k tile starts) [
      | inl here ↦ rw here (omega arith)
      | inr later ↦
          let less : place_at leaves k < length leaves =
          there_from (Some later.on.fence) leaves k later.on.later (starts_later k later.on.fence later.past) in
          rw later.outside (omega (arith, less))
    ]

-- ---- two keys in one leaf

-- what lies in the leaf of a key lies where the leaves begin, or above
held_from : (from : Option Bytes) (leaves : List LeafView) (k q : Bytes) → TileFrom from (parts_of leaves)
    → starts_at_most from k ≡ true
    → is_in_fences (leaf_at leaves k) q ≡ true → starts_at_most from q ≡ true
held_from from [] k q tile starts inside = absurd tile
held_from from (leaf ∷ leaves) k q tile starts inside =
    elim (where_lies from leaf leaves k tile starts) [
      | inl here ↦
          let held : is_in_fences leaf q ≡ true = rw here at inside in
          subst (λ (low : Option Bytes). starts_at_most low q ≡ true) tile.0
          (and_parts (starts_at_most leaf.low_fence q) (ends_above leaf.high_fence q) held).0
      | inr later ↦
          let held : is_in_fences (leaf_at leaves k) q ≡ true = rw later.outside at inside in
          let above : starts_at_most (Some later.on.fence) q ≡ true =
          held_from (Some later.on.fence) leaves k q later.on.later (starts_later k later.on.fence later.past) held in
          from_low from q later.on.fence (not-true (is_below q later.on.fence) above)
          (starts_weaker from later.on.fence later.on.above)
    ]

-- so it doesn't lie in the leaf before these
pub held_out : (from : Option Bytes) (leaf : LeafView) (rest : List LeafView) (k q : Bytes) → LiesLater from leaf rest k
    → is_in_fences (leaf_at rest k) q ≡ true → is_in_fences leaf q ≡ false
held_out from leaf rest k q later inside =
    let above : starts_at_most (Some later.on.fence) q ≡ true =
    held_from (Some later.on.fence) rest k q later.on.later (starts_later k later.on.fence later.past) inside in
    rw (later.on.ends, not-true (is_below q later.on.fence) above)
    (and_right (starts_at_most leaf.low_fence q) false refl)

-- a key that lies in the leaf of another has that very leaf
pub same_from : (from : Option Bytes) (leaves : List LeafView) (k q : Bytes) → TileFrom from (parts_of leaves)
    → starts_at_most from k ≡ true
    → is_in_fences (leaf_at leaves k) q ≡ true → leaf_at leaves q ≡ leaf_at leaves k
same_from from [] k q tile starts inside = absurd tile
same_from from (leaf ∷ leaves) k q tile starts inside =
    elim (where_lies from leaf leaves k tile starts) [
      | inl here ↦
          let held : is_in_fences leaf q ≡ true = rw here at inside in
          rw (here, held) refl
      | inr later ↦
          let held : is_in_fences (leaf_at leaves k) q ≡ true = rw later.outside at inside in
          rw (later.outside, held_out from leaf leaves k q later held)
          (same_from (Some later.on.fence) leaves k q later.on.later (starts_later k later.on.fence later.past) held)
    ]
