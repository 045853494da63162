-- The one spelling of each record of the data component's log, and which records have one.
use Rattle.std.specs.Prelude.{◌≡◌, ℕ, ◌<◌, ◌^◌, List, ◌∷◌, ◌++◌, length}
use Rattle.codec.specs.declared.dc_record.DcRecord.{DcRecord}
use Rattle.codec.specs.declared.dc_record.DcRecord.TheVariants as is
use Rattle.codec.specs.Fields.{number, IsNumber, text, IsKey}
use Rattle.codec.specs.declared.dc_record.DcRecordRef.{DcRecordRef}
use Rattle.codec.specs.declared.dc_record.DcRecordRef.TheVariants as parts
use Rattle.codec.specs.Images.{image_in, image_bytes, IsOrderedImage, IsImage}

-- the record of borrowed parts
abbrev pub record_in : DcRecordRef → DcRecord
record_in (parts.Accept session) = is.Accept session
record_in (parts.Split left cut right) = is.Split left cut.now (image_in right)
record_in (parts.Merge left right merged) = is.Merge left right (image_in merged)

-- the kind, and the fields in order
unfoldable pub dc_record_bytes : DcRecord → List ℕ
dc_record_bytes (is.Accept session) = 1 ∷ number session
dc_record_bytes (is.Split left cut right) = 2 ∷ number left ++ (text cut ++ image_bytes right)
dc_record_bytes (is.Merge left right merged) = 3 ∷ number left ++ (number right ++ image_bytes merged)

-- what the types of the fields don't ensure
abbrev pub IsOrderedDcRecord : DcRecord → Type 0
IsOrderedDcRecord (is.Accept session) = IsNumber session
IsOrderedDcRecord (is.Split left cut right) = IsNumber left × IsOrderedImage right
IsOrderedDcRecord (is.Merge left right merged) =
    IsNumber left × (IsNumber right × (IsOrderedImage merged × (merged.id ≡ left)))

-- what has a spelling
abbrev pub IsDcRecord : DcRecord → Type 0
IsDcRecord (is.Accept session) = IsNumber session
IsDcRecord (is.Split left cut right) = IsNumber left × (IsKey cut × IsImage right)
IsDcRecord (is.Merge left right merged) = (IsNumber left × (IsNumber right × IsImage merged)) × (merged.id ≡ left)

-- it has a spelling, and a frame has room for it
abbrev pub FitsFrame : DcRecord → Type 0
FitsFrame r = IsDcRecord r × (length (dc_record_bytes r) < 2 ^ 64)
