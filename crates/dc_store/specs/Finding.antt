-- What is read of a log, and what both devices give.
use Rattle.std.specs.Prelude.{◌≡◌, ◌⊎◌, ℕ, ◌+◌, ◌<◌, ◌^◌, IsTrue, List, length, reverse}
use Rattle.std.specs.List.{AllByRecursion}
use Rattle.record_key.specs.declared.refusal.Refusal.{Refusal}
use Rattle.record_key.specs.declared.refusal.Refusal.TheVariants.{NoMemory, Device, BadBytes}
use Rattle.codec.specs.declared.dc_record.DcRecord.{DcRecord}
use Rattle.stable.specs.PagesState.{Pages}
use Rattle.stable.specs.Usage.{Usage, is_due, called, failed}
use Rattle.dc_tree.specs.Leaves.{AreLeaves}
use Rattle.dc_tree.specs.Lists.{leaves_in}
use Rattle.dc_recovery.specs.Images.{HasLeafNumbers}
use Rattle.dc_recovery.specs.Laws.{IsArranged}
use Rattle.dc_recovery.specs.Ready.{AreReadable}
use Rattle.dc_recovery.specs.Recovery.{stored_session}
use Rattle.dc_recovery.specs.Shape.{named}
use Rattle.dc_leaf.specs.Leaf.{LeafView}
use Rattle.dc_store.specs.Devices.{spelled, places, pages_of}
use Rattle.dc_store.specs.Recovering.{HoldsFrames, AreOwnPages, RefusesFrames}
use Rattle.dc_store.specs.declared.frames.Frames.{Frames}
use Rattle.dc_store.specs.declared.recovering.Recovered.{Recovered}

-- the log that the frames' records are, the newest first
abbrev pub log_of : Frames → List DcRecord
log_of frames = reverse frames.records.items

-- the records of the bytes' whole frames, which fit, and what is kept of them
pub record AreRead (bytes : List ℕ) (frames : Frames) : Type 0 where
  pub held : HoldsFrames bytes (log_of frames)
  pub readable : (pages : Pages) → AreReadable (pages_of pages) (log_of frames)
  pub numbered : length (log_of frames) < 2 ^ 48
  pub below : named (log_of frames) < 2 ^ 48
  pub places_are : frames.places.items ≡ places (log_of frames)
  pub end_is : frames.end ≡ length (spelled (log_of frames))
  pub next_is : frames.next_id ≡ named (log_of frames) + 1
  pub stored_is : frames.stored_session ≡ stored_session (log_of frames)

-- why the log isn't read, and how its device was used: it failed in the one call, or that gave bytes
abbrev pub StopsReading : List ℕ → Refusal → Usage → Usage → Type 0
StopsReading bytes r old new =
    ((r ≡ Device) × IsTrue (is_due old) × (new ≡ failed old))
    ⊎ ((new ≡ called old) × ((pages : Pages) → RefusesFrames bytes pages r))

-- the leaves that the records and the pages give, in a row
pub record AreRecovered (pages : Pages) (log : List DcRecord) (row : List LeafView) : Type 0 where
  pub own : AreOwnPages pages (length log)
  pub arranged : IsArranged (pages_of pages) log row
  pub leaves : AreLeaves row
  pub numbers : AllByRecursion HasLeafNumbers row

-- why the records and the pages give none
abbrev pub RefusesLeaves : Pages → List DcRecord → Refusal → Type 0
RefusesLeaves pages log r =
    (r ≡ NoMemory) ⊎ (r ≡ Device)
    ⊎ ((r ≡ BadBytes 0) × ((AreOwnPages pages (length log) → ⊥)
    ⊎ ((leaves : List LeafView) → IsArranged (pages_of pages) log leaves → ⊥)))

-- what the bytes of a log and the pages give, when just whole frames are left on the log's device
pub record IsFound (bytes : List ℕ) (pages : Pages) (left : List ℕ) (found : Recovered) : Type 0 where
  pub log : List DcRecord
  pub held : HoldsFrames bytes log
  pub left_is : left ≡ spelled log
  pub readable : AreReadable (pages_of pages) log
  pub numbered : length log < 2 ^ 48
  pub recovered : AreRecovered pages log (leaves_in found.leaves.items)
  pub places : found.places.items ≡ places log
  pub end : found.end ≡ length (spelled log)
  pub next : found.next_id ≡ named log + 1
  pub stored : found.stored_session ≡ stored_session log
  pub named : named log < 2 ^ 48
