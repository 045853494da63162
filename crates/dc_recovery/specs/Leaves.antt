-- The leaves of a running data component: those of the log's shape, in its order.
use Rattle.std.specs.Prelude.{◌≡◌, ℕ, ◌+◌, ◌≤◌, List, [], ◌∷◌, ◌++◌, Some, None, length, map}
use Rattle.std.specs.List.{AllByRecursion}
use Rattle.record_key.specs.Table.{Bytes}
use Rattle.codec.specs.declared.dc_record.DcRecord.{DcRecord}
use Rattle.codec.specs.declared.dc_record.DcRecord.TheVariants as is
use Rattle.dc_leaf.specs.Leaf.{LeafView, first}
use Rattle.dc_leaf.specs.Parting.{lower_of, upper_of, joined_of, AreNeighbours}
use Rattle.dc_leaf.specs.Tiles.{part_of, parts_of, IsInside, Tile}
use Rattle.dc_recovery.specs.Images.{image_of}
use Rattle.dc_recovery.specs.Shape.{part_in, next_id, shape, named, IsLegal, IsOnce}
use Rattle.dc_recovery.specs.Recovery.{Pages, recover, FitPages}
use Rattle.dc_recovery.specs.Laws.{IsCurrent}

-- the leaves are those of the shape, in key order, and each is as the log has it
pub record AreCurrent (log : List DcRecord) (leaves : List LeafView) : Type 0 where
  pub parts : parts_of leaves ≡ shape log
  pub each : AllByRecursion (λ (leaf : LeafView). IsCurrent log leaf.id leaf) leaves

-- the records that last changed the leaves
abbrev pub lasts_of : List LeafView → List ℕ
lasts_of leaves = map (λ (leaf : LeafView). leaf.last) leaves

-- the record of a leaf's cut, which its upper half is in
abbrev pub split_of : List DcRecord → LeafView → Bytes → DcRecord
split_of log leaf cut = is.Split leaf.id cut (image_of (upper_of leaf cut (named log + 1) (length log + 1)))

-- the record of two neighbours' merge, which the leaf of both is in
abbrev pub merge_of : List DcRecord → LeafView → LeafView → DcRecord
merge_of log left right = is.Merge left.id right.id (image_of (joined_of left right (length log + 1)))

-- leaves that tile the keys; no two have one number, none has one above the greatest named, and of two that
-- stand side by side the second begins where the first ends and is the shape's next
pub record AreInPlace (log : List DcRecord) (leaves : List LeafView) : Type 0 where
  pub tile : Tile (parts_of leaves)
  pub once : IsOnce (parts_of leaves)
  pub apart : (before after : List LeafView) (leaf : LeafView) → leaves ≡ before ++ leaf ∷ after
      → (part_in leaf.id (parts_of before) ≡ None) × (part_in leaf.id (parts_of after) ≡ None)
  pub named : AllByRecursion (λ (leaf : LeafView). leaf.id ≤ named log) leaves
  pub next : (before after : List LeafView) (left right : LeafView) → leaves ≡ before ++ left ∷ right ∷ after
      → next_id left.id (shape log) ≡ Some right.id
  pub neighbours : (before after : List LeafView) (left right : LeafView) → leaves ≡ before ++ left ∷ right ∷ after
      → AreNeighbours left right

-- the leaves are the shape's at the start and after recovery; they stay so where a session is accepted, a leaf
-- is cut, two neighbours are merged, or leaves change that keep their numbers, fences and last changes
pub record LeavesAreTheShapes : Type 0 where
  pub start : AreCurrent [] (first ∷ [])
  pub recovered : (pages : Pages) (log : List DcRecord) (forced : ℕ) → IsLegal log → FitPages pages log forced
      → AreCurrent log (recover pages log)
  pub accept : (log : List DcRecord) (session : ℕ) (leaves : List LeafView) → AreCurrent log leaves
      → AreCurrent (is.Accept session ∷ log) leaves
  pub split : (log : List DcRecord) (before after : List LeafView) (leaf : LeafView) (cut : Bytes) → IsLegal log
      → AreCurrent log (before ++ leaf ∷ after) → IsInside (part_of leaf) cut
      → AreCurrent (split_of log leaf cut ∷ log)
      (before ++ lower_of leaf cut (length log + 1) ∷ upper_of leaf cut (named log + 1) (length log + 1) ∷ after)
  pub merge : (log : List DcRecord) (before after : List LeafView) (left right : LeafView) → IsLegal log
      → AreCurrent log (before ++ left ∷ right ∷ after)
      → AreCurrent (merge_of log left right ∷ log) (before ++ joined_of left right (length log + 1) ∷ after)
  pub change : (log : List DcRecord) (leaves others : List LeafView) → AreCurrent log leaves
      → parts_of others ≡ parts_of leaves → lasts_of others ≡ lasts_of leaves → AreCurrent log others
  pub place : (log : List DcRecord) (leaves : List LeafView) → IsLegal log → AreCurrent log leaves
      → AreInPlace log leaves
