-- What is kept while the records of a log are read one after another.
use Rattle.std.specs.Prelude.{◌≡◌, ◌⊎◌, ◌+◌, ◌<◌, ◌^◌, false, List, length, reverse}
use Rattle.record_key.specs.declared.refusal.Refusal.{Refusal}
use Rattle.record_key.specs.declared.refusal.Refusal.TheVariants.{NoMemory, BadBytes}
use Rattle.codec.specs.declared.dc_record.DcRecord.{DcRecord}
use Rattle.stable.specs.PagesState.{Pages}
use Rattle.dc_recovery.specs.Ready.{AreReadable}
use Rattle.dc_store.specs.declared.reading.Reading.{Reading}
use Rattle.dc_store.specs.Devices.{spelled, places, AreRecords, pages_of}
use Rattle.dc_store.specs.Known.{may_follow, IsKnown}

-- the records that were read, the newest first
abbrev pub log_so_far : Reading → List DcRecord
log_so_far reading = reverse reading.records.items

-- these records were read, each fits those before it, and what is kept of them is right
pub record IsReading (log : List DcRecord) (reading : Reading) : Type 0 where
  pub records_are : log_so_far reading ≡ log
  pub spellable : AreRecords log
  pub readable : (pages : Pages) → AreReadable (pages_of pages) log
  pub numbered : length log < 2 ^ 48
  pub places_are : reading.places.items ≡ places log
  pub end_is : reading.end ≡ length (spelled log)
  pub known : IsKnown log reading.known

-- why a record isn't taken in: it doesn't fit the log, or has no number
abbrev pub RefusesNext : List DcRecord → DcRecord → Refusal → Type 0
RefusesNext log next r =
    (r ≡ NoMemory)
    ⊎ ((r ≡ BadBytes (length (spelled log)))
    × ((may_follow log next ≡ false) ⊎ (length log + 1 ≡ 2 ^ 48)))
