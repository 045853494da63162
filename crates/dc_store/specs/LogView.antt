-- The log of the data component: what is seen of it, and what holds of it.
use Rattle.std.specs.Prelude.{◌≡◌, ℕ, ◌+◌, ◌≤◌, Bool, true, List, ◌++◌, length}
use Rattle.codec.specs.declared.dc_record.DcRecord.{DcRecord}
use Rattle.stable.specs.Crash.{BeginsWith}
use Rattle.stable.specs.Usage.{Usage}
use Rattle.dc_recovery.specs.Shape.{named}
use Rattle.framed_log.specs.Beginning.{beginning}
use Rattle.dc_store.specs.Devices.{spelled, places, AreRecords}

-- the records, the newest first, how many of them are stable, and how the device was used
pub record ChangeLogView : Type 0 where
  pub log : List DcRecord
  pub stable : ℕ
  pub usage : Usage

-- the device holds just the frames of the records, and the stable ones are among what every crash leaves; where it
-- forces all or nothing, they are just what it leaves
pub record IsStored (whole : Bool) (log : List DcRecord) (stable : ℕ) (forced pending : List ℕ) : Type 0 where
  pub within : stable ≤ length log
  pub stored : forced ++ pending ≡ spelled log
  pub covered : BeginsWith forced (spelled (beginning log stable))
  pub just : whole ≡ true → forced ≡ spelled (beginning log stable)

-- the records have spellings, and what is kept of them is right
pub record AreFrames (log : List DcRecord) (begins : List ℕ) (end next_id : ℕ) : Type 0 where
  pub spellable : AreRecords log
  pub begins_are : begins ≡ places log
  pub end_is : end ≡ length (spelled log)
  pub next_is : next_id ≡ named log + 1
