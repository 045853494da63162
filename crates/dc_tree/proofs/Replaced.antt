-- Leaves of which one is replaced by another with the same fences have all keys among them still.
use Rattle.std.proofs.Common.{◌≡◌, ℕ, zero, suc, ◌<◌, List, [], ◌∷◌, length, get_or, set, Option, Some, None, sym, ap, ◌∙◌, subst, arith, inl, inr}
use Rattle.record_key.specs.Table.{Bytes}
use Rattle.dc_leaf.specs.Leaf.{LeafView, IsLeaf, first}
use Rattle.dc_leaf.specs.Tiles.{parts_of, TileFrom}
use Rattle.dc_tree.specs.Leaves.{AreLeaves}
use Rattle.dc_tree.proofs.Tiling.{cases_tile, tile_last, tile_on}
use Rattle.dc_tree.proofs.Whole.{all_set}

tile_replaced : (from : Option Bytes) (leaves : List LeafView) (p : ℕ) (x : LeafView) → p < length leaves
    → x.low_fence ≡ (get_or leaves p first).low_fence → x.high_fence ≡ (get_or leaves p first).high_fence
    → TileFrom from (parts_of leaves) → TileFrom from (parts_of (set leaves p x))
tile_replaced from [] p x there low high tile = absurd tile
tile_replaced from (leaf ∷ rest) zero x there low high tile =
    elim (cases_tile from leaf rest tile) [
      | inl last ↦
          subst (λ (r : List LeafView). TileFrom from (parts_of (x ∷ r))) (sym last.alone)
          (tile_last from x (low ∙ last.begins) (high ∙ last.ends))
      | inr on ↦ tile_on from x rest on.fence (low ∙ on.begins) (high ∙ on.ends) on.above on.later
    ]
tile_replaced from (leaf ∷ rest) (suc p) x there low high tile =
    elim (cases_tile from leaf rest tile) [
      | inl last ↦ absurd (omega (arith, there, ap length last.alone))
      | inr on ↦
          tile_on from leaf (set rest p x) on.fence on.begins on.ends on.above
          (tile_replaced (Some on.fence) rest p x (omega (arith, there)) low high on.later)
    ]

pub replaced_leaves : (leaves : List LeafView) (p : ℕ) (x : LeafView) → IsLeaf x → p < length leaves
    → x.low_fence ≡ (get_or leaves p first).low_fence → x.high_fence ≡ (get_or leaves p first).high_fence
    → AreLeaves leaves → AreLeaves (set leaves p x)
replaced_leaves leaves p x is there low high kept = record {
  each = all_set IsLeaf leaves p x is kept.each;
  tile = tile_replaced None leaves p x there low high kept.tile;
}
