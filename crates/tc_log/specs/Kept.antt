-- What holds of frames, and of a log, as they are kept.
use Rattle.std.specs.Prelude.{◌≡◌, ℕ, ◌≤◌, ◌<◌, ◌^◌, Bool, true, List, [], ◌∷◌, ◌++◌, length}
use Rattle.codec.specs.FrameIndex.{place_at, places_of, Indexes}
use Rattle.codec.specs.Frames.{frame}
use Rattle.codec.specs.Records.{record_bytes}
use Rattle.history.specs.declared.record.Record.{Record}
use Rattle.history.specs.Legal.{IsLegal}
use Rattle.stable.specs.Crash.{BeginsWith}
use Rattle.stable.specs.LogState.{LogState}
use Rattle.stable.specs.Usage.{Usage, called}
use Rattle.tc_log.specs.Index.{index}
use Rattle.tc_log.specs.LogView.{last_not_session}
use Rattle.tc_log.specs.Low.{IsGreatestLow}
use Rattle.framed_log.specs.Beginning.{beginning}
use Rattle.tc_log.specs.Spelled.{spelled, places, AreRecords}

-- what is seen of frames: the records that were read, the newest first, the bytes after these, and the device
pub record FramesView : Type 0 where
  pub records : List Record
  pub left : List ℕ
  pub device : LogState

-- the frames with their device used so
abbrev pub with_usage : FramesView → Usage → FramesView
with_usage frames usage = record frames { device = record frames.device { usage = usage } }

-- the frames with this record's after them, by one call of the device
abbrev pub with_appended : FramesView → Record → FramesView
with_appended frames r = record frames {
  records = r ∷ frames.records;
  device = record frames.device {
    pending = frames.device.pending ++ frame (record_bytes r);
    usage = called frames.device.usage;
  };
}

-- the records are legal and have spellings, and what is kept of them is right
pub record AreFrames (log : List Record) (bytes left begins answers : List ℕ) (end : ℕ) : Type 0 where
  pub legal : IsLegal log
  pub spellable : AreRecords log
  pub numbered : length log < 2 ^ 48
  pub bytes_are : bytes ≡ spelled log ++ left
  pub end_is : end ≡ length (spelled log)
  pub begins_are : begins ≡ places log
  pub indexed : answers ≡ index log

-- and the places of their frames are those that an index tells
pub record AreIndexed (log : List Record) (bytes left marks : List ℕ) (count : ℕ) (answers : List ℕ) (end : ℕ)
    : Type 0 where
  pub frames : AreFrames log bytes left (places_of bytes count) answers end
  pub indexes : Indexes bytes marks count
  pub ends : end ≡ place_at bytes count

-- all bytes of the device are the records' frames, and the stable records are among what every crash leaves; where the
-- device forces all or nothing, they are just what it leaves
pub record IsKept (whole : Bool) (frames : FramesView) (stable answered last : ℕ) : Type 0 where
  pub all_read : frames.left ≡ []
  pub within : stable ≤ length frames.records
  pub greatest : IsGreatestLow frames.records stable answered
  pub last_is : last ≡ last_not_session frames.records
  pub stored : frames.device.forced ++ frames.device.pending ≡ spelled frames.records
  pub covered : BeginsWith frames.device.forced (spelled (beginning frames.records stable))
  pub just : whole ≡ true → frames.device.forced ≡ spelled (beginning frames.records stable)
