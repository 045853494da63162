-- Where leaves stand whose parts are those of a legal log's shape.
use Rattle.std.proofs.Common.{◌≡◌, ◌≢◌, ◌≤◌, true, List, [], ◌∷◌, ◌++◌, Option, Some, None, refl, sym, ap, ◌∙◌, subst, inl, inr}
use Rattle.std.proofs.lemmas.List.{map-append}
use Rattle.std.proofs.lemmas.Bool.{cases_lt}
use Rattle.record_key.specs.Table.{Bytes}
use Rattle.record_key.specs.Order.{ends_above}
use Rattle.record_key.proofs.Lists.{all_from}
use Rattle.codec.specs.declared.dc_record.DcRecord.{DcRecord}
use Rattle.dc_leaf.specs.Leaf.{LeafView}
use Rattle.dc_leaf.specs.Parting.{AreNeighbours}
use Rattle.dc_leaf.specs.Tiles.{Part, part_of, parts_of, starts_below, TileFrom, Tile}
use Rattle.dc_recovery.specs.Shape.{part_in, next_id, named, IsLegal, IsOnce}
use Rattle.dc_recovery.specs.Laws.{IsCurrent}
use Rattle.dc_recovery.specs.Leaves.{AreCurrent, AreInPlace}
use Rattle.dc_leaf.proofs.Starts.{starts_weaker}
use Rattle.dc_recovery.proofs.Finding.{not_in, not_before, once_after, next_at}
use Rattle.dc_recovery.proofs.Splitting.{Rest}
use Rattle.dc_recovery.proofs.Shapes.{tile, once, known}

pub parts_amid : (before after : List LeafView) → parts_of (before ++ after) ≡ parts_of before ++ parts_of after
parts_amid before after = map-append part_of before after

-- the leaf's number stands at no other leaf
pub apart_of : (before after : List LeafView) (leaf : LeafView) → IsOnce (parts_of (before ++ leaf ∷ after))
    → (part_in leaf.id (parts_of before) ≡ None) × (part_in leaf.id (parts_of after) ≡ None)
apart_of before after leaf once =
    let parts : IsOnce (parts_of before ++ part_of leaf ∷ parts_of after) =
    rw (parts_amid before (leaf ∷ after)) at once in (
      not_before leaf.id (parts_of before) (part_of leaf ∷ parts_of after) parts
          (λ none. (not_in leaf.id (part_of leaf) (parts_of after) none).first refl),
      (once_after (parts_of before) (part_of leaf ∷ parts_of after) parts).0,
    )

-- nor does that of the second of two
pub second_apart : (before after : List LeafView) (left right : LeafView)
    → IsOnce (parts_of (before ++ left ∷ right ∷ after))
    → (part_in right.id (parts_of before) ≡ None) × (part_in right.id (parts_of after) ≡ None)
second_apart before after left right once =
    let parts : IsOnce (parts_of before ++ part_of left ∷ part_of right ∷ parts_of after) =
    rw (parts_amid before (left ∷ right ∷ after)) at once in (
      not_before right.id (parts_of before) (part_of left ∷ part_of right ∷ parts_of after) parts
          (λ none.
          (not_in right.id (part_of right) (parts_of after)
          (not_in right.id (part_of left) (part_of right ∷ parts_of after) none).rest).first refl),
      (once_after (parts_of before) (part_of left ∷ part_of right ∷ parts_of after) parts).1.0,
    )

-- the second of two is the next
pub second_next : (before after : List LeafView) (left right : LeafView)
    → IsOnce (parts_of (before ++ left ∷ right ∷ after))
    → next_id left.id (parts_of (before ++ left ∷ right ∷ after)) ≡ Some right.id
second_next before after left right once =
    ap (next_id left.id) (parts_amid before (left ∷ right ∷ after))
    ∙ next_at (parts_of before) (parts_of after) (part_of left) (part_of right)
    (apart_of before (right ∷ after) left once).0

-- and begins where the first ends
ends_after : (low high : Option Bytes) (h : Bytes) (ps : List Part) → low ≡ Some h → Rest low high ps
    → ends_above high h ≡ true
ends_after low None h ps begins r = refl
ends_after low (Some k) h ps begins r = subst (λ (x : Option Bytes). starts_below x k ≡ true) begins r.0

meet : (left right : LeafView) (after : List LeafView) (high : Option Bytes) → left.high_fence ≡ high
    → Rest left.low_fence high (part_of right ∷ parts_of after) → AreNeighbours left right
meet left right after None ends r = absurd (cc)
meet left right after (Some h) ends r = record {
  fence = h;
  ends = ends;
  begins = r.1.0;
  above = starts_weaker left.low_fence h r.0;
  below = ends_after right.low_fence right.high_fence h (parts_of after) r.1.0 r.1.1;
}

-- what is so of leaves wherever they begin is so of those after a part
after_part : (Q : Type 0) (low high : Option Bytes) (ps : List Part) → ps ≢ []
    → ((h : Bytes) → TileFrom (Some h) ps → Q) → Rest low high ps → Q
after_part Q low None ps some so r = absurd (some r)
after_part Q low (Some h) ps some so r = so h r.1

some_part : (before after : List LeafView) (leaf : LeafView) → parts_of (before ++ leaf ∷ after) ≢ []
some_part [] after leaf e = cc
some_part (x ∷ before) after leaf e = cc

second_meets : (before after : List LeafView) (left right : LeafView) (from : Option Bytes)
    → TileFrom from (parts_of (before ++ left ∷ right ∷ after)) → AreNeighbours left right
second_meets [] after left right from tile = meet left right after left.high_fence refl tile.1
second_meets (x ∷ before) after left right from tile =
    after_part (AreNeighbours left right) x.low_fence x.high_fence (parts_of (before ++ left ∷ right ∷ after))
    (some_part before (right ∷ after) left) (λ h. second_meets before after left right (Some h)) tile.1

-- a leaf that the log has is one that it named
pub current_named : (log : List DcRecord) (leaf : LeafView) → IsLegal log → IsCurrent log leaf.id leaf
    → leaf.id ≤ named log
current_named log leaf legal current =
    elim (cases_lt (named log) leaf.id) [
      | inl above ↦
          let no : None ≡ Some (part_of leaf) = sym (known log leaf.id legal above) ∙ current.fences in absurd (cc)
      | inr within ↦ within
    ]

pub leaves_once : (log : List DcRecord) (leaves : List LeafView) → IsLegal log → AreCurrent log leaves
    → IsOnce (parts_of leaves)
leaves_once log leaves legal current = subst IsOnce (sym current.parts) (once log legal)

pub in_place : (log : List DcRecord) (leaves : List LeafView) → IsLegal log → AreCurrent log leaves
    → AreInPlace log leaves
in_place log leaves legal current =
    let tiled : Tile (parts_of leaves) = subst Tile (sym current.parts) (tile log legal) in
    let single : IsOnce (parts_of leaves) = leaves_once log leaves legal current in
    record {
      tile = tiled;
      once = single;
      apart =
          λ before after leaf stands.
          apart_of before after leaf (subst (λ (x : List LeafView). IsOnce (parts_of x)) stands single);
      named = all_from (λ (leaf : LeafView). IsCurrent log leaf.id leaf) (λ (leaf : LeafView). leaf.id ≤ named log)
          (λ leaf has. current_named log leaf legal has) leaves current.each;
      next = λ before after left right stands.
          ap (next_id left.id) (sym current.parts)
          ∙ ap (λ (x : List LeafView). next_id left.id (parts_of x)) stands
          ∙ second_next before after left right (subst (λ (x : List LeafView). IsOnce (parts_of x)) stands single);
      neighbours = λ before after left right stands.
          second_meets before after left right None (subst (λ (x : List LeafView). Tile (parts_of x)) stands tiled);
    }
