-- What is seen of a device that was read.
use Rattle.std.specs.Prelude.{◌≡◌, ℕ, List, [], ◌++◌}
use Rattle.codec.specs.Frames.{IsCut}
use Rattle.stable.specs.Usage.{Usage}
use Rattle.history.specs.declared.record.Record.{Record}
use Rattle.tc_log.specs.Kept.{FramesView}
use Rattle.tc_log.specs.Replay.{IsIndex}
use Rattle.tc_log.specs.Spelled.{spelled}
use Rattle.tc_log.specs.declared.replay.Index.{Index}

-- the records of its whole frames, the newest first, all its bytes, and how it was used
pub record FoundView : Type 0 where
  pub records : List Record
  pub bytes : List ℕ
  pub usage : Usage

-- all bytes are forced, they are the records' frames and no whole frame after these, and the index is right
pub record IsRead (frames : FramesView) (index : Index) : Type 0 where
  pub none_pending : frames.device.pending ≡ []
  pub parts : frames.device.forced ≡ spelled frames.records ++ frames.left
  pub cut : IsCut 181 frames.left
  pub indexed : IsIndex frames.records index
