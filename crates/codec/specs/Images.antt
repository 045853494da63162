-- The one spelling of a leaf's image, and which images have one.
use Rattle.std.specs.Prelude.{ℕ, List, ◌++◌, IfSome}
use Rattle.std.specs.List.{AllByRecursion}
use Rattle.std.specs.Option.{option_copied}
use Rattle.record_key.specs.Rows.{AreInOrder, LieBetween}
use Rattle.record_key.specs.Entries.{RiseAbove, StandBetween}
use Rattle.codec.specs.declared.image.LeafImage.{LeafImage}
use Rattle.codec.specs.declared.image.LeafImageRef.{LeafImageRef}
use Rattle.codec.specs.Fields.{number, IsNumber, text, IsKey, optional}
use Rattle.codec.specs.Rows.{rows_bytes, AreRows}
use Rattle.codec.specs.Entries.{entries_bytes, HasEntryNumber, AreEntries}

-- the image of borrowed parts
abbrev pub image_in : LeafImageRef → LeafImage
image_in parts = record {
  id = parts.id;
  last = parts.last;
  low = parts.low;
  low_fence = option_copied parts.low_fence;
  high_fence = option_copied parts.high_fence;
  rows = parts.rows;
  entries = parts.entries.now;
}

-- the keys lie in the fences, and the entries' numbers rise above low
pub record KeepsBounds (image : LeafImage) : Type 0 where
  pub rows : LieBetween image.low_fence image.high_fence image.rows
  pub entries : StandBetween image.low_fence image.high_fence image.entries
  pub rising : RiseAbove image.low image.entries

-- three numbers, two fences, the records and the entries
unfoldable pub image_bytes : LeafImage → List ℕ
image_bytes image =
    (number image.id ++ (number image.last ++ number image.low))
    ++ ((optional text image.low_fence ++ optional text image.high_fence)
    ++ (rows_bytes image.rows ++ entries_bytes image.entries))

-- what the types of the parts don't ensure
pub record IsOrderedImage (image : LeafImage) : Type 0 where
  pub id : IsNumber image.id
  pub last : IsNumber image.last
  pub low : IsNumber image.low
  pub rows : AreInOrder image.rows
  pub numbers : AllByRecursion HasEntryNumber image.entries
  pub bounds : KeepsBounds image

-- what has a spelling
pub record IsImage (image : LeafImage) : Type 0 where
  pub id : IsNumber image.id
  pub last : IsNumber image.last
  pub low : IsNumber image.low
  pub low_fence : IfSome image.low_fence IsKey
  pub high_fence : IfSome image.high_fence IsKey
  pub rows : AreRows image.rows
  pub entries : AreEntries image.entries
  pub bounds : KeepsBounds image
