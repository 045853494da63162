-- What is true of devices after a crash, and of what is opened from them.
use Rattle.std.specs.Prelude.{◌≡◌, ◌⊎◌, ℕ, ◌<◌, ◌≤◌, ◌^◌, Bool, List, Some, Ok, length}
use Rattle.std.specs.FinMap.{get}
use Rattle.record_key.specs.declared.refusal.Refusal.{Refusal}
use Rattle.record_key.specs.declared.refusal.Refusal.TheVariants.{NoMemory, Device}
use Rattle.codec.specs.declared.dc_record.DcRecord.{DcRecord}
use Rattle.stable.specs.Crash.{MayLeave}
use Rattle.stable.specs.PagesState.{Pages}
use Rattle.dc_leaf.specs.Leaf.{LeafView}
use Rattle.dc_recovery.specs.Shape.{IsLegal}
use Rattle.framed_log.specs.Beginning.{beginning}
use Rattle.framed_log.specs.Crashed.{LeavesBeginning}
use Rattle.dc_recovery.specs.Recovery.{recover, FitPages}
use Rattle.dc_recovery.specs.Laws.{IsSafeBeginning}
use Rattle.dc_store.specs.Devices.{framing, spelled, AreRecords, IsPage, pages_of}
use Rattle.dc_store.specs.LogView.{IsStored}
use Rattle.dc_store.specs.SystemView.{SystemView}
use Rattle.dc_store.specs.Kept.{IsRecoverable}
use Rattle.dc_store.specs.Checked.{IsChecked, Checks}
use Rattle.dc_store.specs.Crashed.{crashed}
use Rattle.dc_store.specs.Gives.{CheckpointGives}
use Rattle.dc_store.specs.Recovering.{HoldsFrames, Recovers, RefusesRecovery}

-- a crash leaves whole frames, and perhaps a cut one
abbrev pub CrashesLeaveFrames : Type 0
CrashesLeaveFrames =
    (whole : Bool) (log : List DcRecord) (stable : ℕ) (forced pending left : List ℕ) → AreRecords log
    → IsStored whole log stable forced pending → MayLeave forced pending left → LeavesBeginning framing HoldsFrames log stable left

-- bytes hold the frames of one log, and hold the same once what isn't whole is cut off
pub record FramesReadOnce : Type 0 where
  pub once : (bytes : List ℕ) (log other : List DcRecord) → HoldsFrames bytes log → HoldsFrames bytes other
      → log ≡ other
  pub cut : (bytes : List ℕ) (log : List DcRecord) → HoldsFrames bytes log → HoldsFrames (spelled log) log

-- what was opened has this log and the leaves that it gives with these pages, and is good after any crash from here on
pub record IsRestartOf (pages : Pages) (log : List DcRecord) (v : SystemView) : Type 0 where
  pub log_is : v.log ≡ log
  pub leaves_are : v.leaves ≡ recover (pages_of pages) log
  pub recoverable : IsRecoverable v

-- where the log is legal and the pages fit it, what is opened is what the log says
abbrev pub RestartsGiveTheLog : Type 0
RestartsGiveTheLog =
    (bytes : List ℕ) (pages : Pages) (log : List DcRecord) (forced : ℕ) (v : SystemView) → IsLegal log
    → FitPages (pages_of pages) log forced → HoldsFrames bytes log → Recovers bytes pages v → IsRestartOf pages log v

-- and opening isn't refused for what the devices hold
abbrev pub RestartsAreNeverBad : Type 0
RestartsAreNeverBad =
    (bytes : List ℕ) (pages : Pages) (log : List DcRecord) (forced : ℕ) (r : Refusal) → IsLegal log
    → FitPages (pages_of pages) log forced
    → ((id : ℕ) (page : List ℕ) → get pages id ≡ Some page → (leaf : LeafView) × IsPage page leaf)
    → length log < 2 ^ 48 → HoldsFrames bytes log → RefusesRecovery bytes pages r → (r ≡ NoMemory) ⊎ (r ≡ Device)

-- each beginning with all stable records is legal, and the pages fit it
abbrev pub BeginningsAreRecoverable : Type 0
BeginningsAreRecoverable =
    (v : SystemView) (n : ℕ) → IsRecoverable v → v.stable ≤ n
    → IsSafeBeginning (pages_of v.pages) (beginning v.log n) (length (beginning v.log n))

-- what a checkpoint was done to is as low, and stays so over a crash, whichever records stay
pub record CheckpointsLast : Type 0 where
  pub reaches : (old : SystemView) (l known : ℕ) (new : SystemView) → IsRecoverable old
      → CheckpointGives old l known (Ok tt) new → IsChecked l new
  pub lasts : (v : SystemView) (n : ℕ) → IsRecoverable v → v.stable ≤ n → Checks v (crashed v n)
