-- Leaves and their images.
use Rattle.std.specs.Prelude.{◌≡◌, ℕ}
use Rattle.std.specs.List.{AllByRecursion}
use Rattle.std.specs.FinMap as map
use Rattle.record_key.specs.declared.op.Op.{Op}
use Rattle.record_key.specs.Table.{Bytes}
use Rattle.record_key.specs.Rows.{AreInOrder, table_of}
use Rattle.codec.specs.declared.image.LeafImage.{LeafImage}
use Rattle.codec.specs.Fields.{IsNumber}
use Rattle.codec.specs.Entries.{HasEntryNumber}
use Rattle.codec.specs.Images.{IsOrderedImage, IsImage}
use Rattle.dc_leaf.specs.Leaf.{LeafView, IsLeaf, first, performed, raised_to}
use Rattle.dc_leaf.specs.Parting.{lower_of, upper_of, joined_of}

-- the leaf that an image keeps
abbrev pub leaf_of : LeafImage → LeafView
leaf_of image = record {
  id = image.id;
  last = image.last;
  low_fence = image.low_fence;
  high_fence = image.high_fence;
  rows = table_of image.rows;
  ab = record { low = image.low; entries = image.entries };
}

-- the image that keeps a leaf
abbrev pub image_of : LeafView → LeafImage
image_of leaf = record {
  id = leaf.id;
  last = leaf.last;
  low = leaf.ab.low;
  low_fence = leaf.low_fence;
  high_fence = leaf.high_fence;
  rows = map.entries leaf.rows;
  entries = leaf.ab.entries;
}

-- every number in the leaf has a spelling
pub record HasLeafNumbers (leaf : LeafView) : Type 0 where
  pub id : IsNumber leaf.id
  pub last : IsNumber leaf.last
  pub low : IsNumber leaf.ab.low
  pub entries : AllByRecursion HasEntryNumber leaf.ab.entries

-- a leaf's image keeps the leaf, and of a leaf with numbers that have spellings it is in order; and an image that
-- has a spelling keeps such a leaf
pub record ImagesKeepLeaves : Type 0 where
  pub leaf : (leaf : LeafView) → leaf_of (image_of leaf) ≡ leaf
  pub image : (image : LeafImage) → AreInOrder image.rows → image_of (leaf_of image) ≡ image
  pub ordered : (leaf : LeafView) → IsLeaf leaf → HasLeafNumbers leaf → IsOrderedImage (image_of leaf)
  pub spelled : (image : LeafImage) → IsImage image → IsLeaf (leaf_of image) × HasLeafNumbers (leaf_of image)

-- the numbers have spellings still where a leaf performs, is raised, is cut or joined, if the new ones do
pub record NumbersStay : Type 0 where
  pub first : HasLeafNumbers first
  pub perform : (leaf : LeafView) (n : ℕ) (o : Op) → HasLeafNumbers leaf → IsNumber n
      → HasLeafNumbers (performed leaf n o)
  pub raise : (leaf : LeafView) (l : ℕ) → HasLeafNumbers leaf → IsNumber l → HasLeafNumbers (raised_to leaf l)
  pub lower : (leaf : LeafView) (cut : Bytes) (d : ℕ) → HasLeafNumbers leaf → IsNumber d
      → HasLeafNumbers (lower_of leaf cut d)
  pub upper : (leaf : LeafView) (cut : Bytes) (id d : ℕ) → HasLeafNumbers leaf → IsNumber id → IsNumber d
      → HasLeafNumbers (upper_of leaf cut id d)
  pub join : (left right : LeafView) (d : ℕ) → HasLeafNumbers left → HasLeafNumbers right → IsNumber d
      → HasLeafNumbers (joined_of left right d)
