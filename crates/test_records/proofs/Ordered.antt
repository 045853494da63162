-- What has a spelling may be written.
use Rattle.std.proofs.Common.{List, [], ◌∷◌}
use Rattle.std.specs.List.{AllByRecursion}
use Rattle.history.specs.declared.record.Record.{Record}
use Rattle.history.specs.declared.record.Record.TheVariants as is
use Rattle.codec.specs.declared.image.LeafImage.{LeafImage}
use Rattle.codec.specs.declared.dc_record.DcRecord.{DcRecord}
use Rattle.codec.specs.declared.dc_record.DcRecord.TheVariants as dc
use Rattle.codec.specs.declared.reply.Reply.{Reply}
use Rattle.codec.specs.declared.reply.Reply.TheVariants as says
use Rattle.record_key.specs.declared.entry.Entry.{Entry}
use Rattle.codec.specs.Records.{HasNumbers, IsRecord}
use Rattle.codec.specs.Replies.{IsOrdered, IsReply}
use Rattle.codec.specs.Entries.{HasEntryNumber, IsEntry}
use Rattle.codec.specs.Images.{IsOrderedImage, IsImage}
use Rattle.codec.specs.DcRecords.{IsOrderedDcRecord, IsDcRecord}

-- a record that has a spelling may be written
pub has_numbers : (r : Record) → IsRecord r → HasNumbers r
has_numbers is.Session fits = tt
has_numbers is.Begin fits = tt
has_numbers (is.Op txn prev o) fits = (fits.0, fits.1.0)
has_numbers (is.Answer of a) fits = fits.0
has_numbers (is.Comp txn undoes next inverse) fits = (fits.0, fits.1.0, fits.1.1.0)
has_numbers (is.Commit txn) fits = fits
has_numbers (is.End txn) fits = fits
has_numbers (is.Checkpoint low) fits = fits

-- a reply that has a spelling may be written
pub is_ordered : (r : Reply) → IsReply r → IsOrdered r
is_ordered (says.Connected session) fits = fits
is_ordered (says.Answered session n a) fits = (fits.0, fits.1.0)
is_ordered (says.Row session read value) fits = (fits.0, fits.1.0)
is_ordered (says.Rows session read rows) fits = (fits.0, fits.1.0, fits.1.1.1)
is_ordered (says.Checkpointed session low) fits = fits
is_ordered (says.RedoEnded session) fits = fits

pub entry_numbers : (entries : List Entry) → AllByRecursion IsEntry entries → AllByRecursion HasEntryNumber entries
entry_numbers [] fits = tt
entry_numbers (entry ∷ entries) fits = (fits.0.0, entry_numbers entries fits.1)

-- an image that has a spelling may be written
pub image_is_ordered : (image : LeafImage) → IsImage image → IsOrderedImage image
image_is_ordered image fits =
    record {
      id = fits.id;
      last = fits.last;
      low = fits.low;
      rows = fits.rows.1;
      numbers = entry_numbers image.entries fits.entries.1;
      bounds = fits.bounds;
    }

-- a record that has a spelling may be written
pub dc_record_is_ordered : (r : DcRecord) → IsDcRecord r → IsOrderedDcRecord r
dc_record_is_ordered (dc.Accept session) fits = fits
dc_record_is_ordered (dc.Split left cut right) fits = (fits.0, image_is_ordered right fits.1.1)
dc_record_is_ordered (dc.Merge left right merged) fits =
    (fits.0.0, (fits.0.1.0, (image_is_ordered merged fits.0.1.1, fits.1)))
