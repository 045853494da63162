-- What the bytes on the devices say.
use Rattle.std.specs.Prelude.{◌≡◌, ℕ, List, Option}
use Rattle.std.specs.FinMap as table
use Rattle.std.specs.Option.{option_map}
use Rattle.codec.specs.declared.dc_record.DcRecord.{DcRecord}
use Rattle.codec.specs.declared.dc_record.DcRecord.TheVariants as is
use Rattle.codec.specs.DcRecords.{dc_record_bytes, FitsFrame}
use Rattle.codec.specs.Frames.{any_length}
use Rattle.codec.specs.Images.{image_bytes, IsImage}
use Rattle.codec.specs.Reading.{◌>>=◌, all_of, image_at, dc_record_at}
use Rattle.framed_log.specs.Spelled as framed
use Rattle.stable.specs.PagesState.{Pages}
use Rattle.dc_leaf.specs.Leaf.{LeafView, IsLeaf}
use Rattle.dc_recovery.specs.Images.{leaf_of, image_of}

-- how records stand in frames
abbrev pub framing : framed.Framing DcRecord
framing = record {
  spell = dc_record_bytes;
  Fits = FitsFrame;
  limit = any_length;
  read = dc_record_at;
  other = is.Accept 0;
}

-- the frames of the log's records, the oldest first
abbrev pub spelled : List DcRecord → List ℕ
spelled = framed.spelled framing

-- where the frame of each record begins
abbrev pub places : List DcRecord → List ℕ
places = framed.places framing

-- each record has a spelling
abbrev pub AreRecords : List DcRecord → Type 0
AreRecords = framed.AreRecords framing

-- the records whose frames begin at these places, the last one first
abbrev pub records_at : List ℕ → List ℕ → List DcRecord
records_at = framed.records_at framing

-- the page's bytes are the image of this leaf
pub record IsPage (bytes : List ℕ) (leaf : LeafView) : Type 0 where
  pub kept : IsLeaf leaf
  pub image : IsImage (image_of leaf)
  pub spelled : bytes ≡ image_bytes (image_of leaf)

-- the leaf that a page's bytes are the image of
unfoldable pub page_in : List ℕ → Option LeafView
page_in bytes = option_map leaf_of (all_of image_at bytes)

-- the leaf of each page
abbrev pub pages_of : Pages → ℕ → Option LeafView
pages_of pages id = table.get pages id >>= page_in
