-- Records of halves and of two neighbours together fit.
use Rattle.std.proofs.Common.{◌≡◌, ℕ, ◌+◌, List, length, Option, Some, None, refl, sym, ap, ap₂, ◌∙◌, arith}
use Rattle.record_key.specs.Table.{Bytes}
use Rattle.codec.specs.declared.image.LeafImage.{LeafImage}
use Rattle.codec.specs.declared.dc_record.DcRecord.{DcRecord}
use Rattle.dc_leaf.specs.Leaf.{LeafView}
use Rattle.dc_leaf.specs.Parting.{upper_of, joined_of}
use Rattle.dc_leaf.specs.Tiles.{part_of, IsInside}
use Rattle.dc_recovery.specs.Images.{image_of}
use Rattle.dc_recovery.specs.Shape.{part_in, next_id, shape, named, FitsSplit, FitsMerge, IsLegal}
use Rattle.dc_recovery.specs.Laws.{IsCurrent}
use Rattle.dc_recovery.specs.Ready.{HalvesFit}
use Rattle.dc_recovery.proofs.Splitting.{split_new}
use Rattle.dc_recovery.proofs.Merging.{merge_left}
use Rattle.dc_recovery.proofs.Shapes.{known, once}

-- any with the numbers and fences
pub halves_split : (log : List DcRecord) (left : ℕ) (cut : Bytes) (leaf : LeafView) (right : LeafImage) → IsLegal log
    → IsCurrent log left leaf → IsInside (part_of leaf) cut
    → right.id ≡ named log + 1 → right.last ≡ length log + 1 → right.low_fence ≡ Some cut
    → right.high_fence ≡ leaf.high_fence → FitsSplit log left cut right
halves_split log left cut leaf right legal current inside next last low high = record {
  old = part_of leaf;
  there = current.fences;
  inside = inside;
  next = next;
  last = last;
  fences =
      let fresh : part_in right.id (shape log) ≡ None = known log right.id legal (omega (arith, next)) in
      split_new left right.id cut (shape log) (part_of leaf) current.fences fresh
      ∙ ap₂ (λ (x y : Option Bytes). Some (record { id = right.id; low = x; high = y })) (sym low) (sym high);
}

pub halves_merge : (log : List DcRecord) (left right : ℕ) (leaf other : LeafView) (merged : LeafImage) → IsLegal log
    → IsCurrent log left leaf → IsCurrent log right other
    → next_id left (shape log) ≡ Some right → merged.id ≡ left → merged.last ≡ length log + 1
    → merged.low_fence ≡ leaf.low_fence → merged.high_fence ≡ other.high_fence
    → FitsMerge log left right merged
halves_merge log left right leaf other merged legal current neighbour next id last low high = record {
  neighbours = next;
  id = id;
  last = last;
  fences =
      merge_left left right (shape log) (part_of leaf) (part_of other)
      (once log legal) next current.fences neighbour.fences
      ∙ ap (λ (x : ℕ). Some (record { id = x; low = leaf.low_fence; high = other.high_fence })) (current.own ∙ sym id)
      ∙ ap₂ (λ (x y : Option Bytes). Some (record { id = merged.id; low = x; high = y })) (sym low) (sym high);
}

-- the leaf that a cut gives, and the one that a join gives
pub cut_fits : (log : List DcRecord) (leaf : LeafView) (cut : Bytes) → IsLegal log → IsCurrent log leaf.id leaf
    → IsInside (part_of leaf) cut
    → FitsSplit log leaf.id cut (image_of (upper_of leaf cut (named log + 1) (length log + 1)))
cut_fits log leaf cut legal current inside =
    halves_split log leaf.id cut leaf
    (image_of (upper_of leaf cut (named log + 1) (length log + 1))) legal current inside
    refl refl refl refl

pub join_fits : (log : List DcRecord) (left right : LeafView) → IsLegal log → IsCurrent log left.id left
    → IsCurrent log right.id right → next_id left.id (shape log) ≡ Some right.id
    → FitsMerge log left.id right.id (image_of (joined_of left right (length log + 1)))
join_fits log left right legal current neighbour next =
    halves_merge log left.id right.id left right
    (image_of (joined_of left right (length log + 1))) legal current neighbour
    next refl refl refl refl

-- the law
pub halves_fit : HalvesFit
halves_fit = record { split = halves_split; merge = halves_merge; cut = cut_fits; join = join_fits }
