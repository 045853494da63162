-- What is found on the devices after a crash, and what recovery makes of it. A log is a list with the newest record
-- first; of its bytes the frames of whole records count, and a last one that is cut doesn't.
use Rattle.std.specs.Prelude.{◌≡◌, ◌⊎◌, ℕ, ◌<◌, ◌≤◌, ◌^◌, List, Some, length}
use Rattle.std.specs.FinMap.{get}
use Rattle.record_key.specs.declared.refusal.Refusal.{Refusal}
use Rattle.record_key.specs.declared.refusal.Refusal.TheVariants.{Device, BadBytes}
use Rattle.codec.specs.declared.dc_record.DcRecord.{DcRecord}
use Rattle.framed_log.specs.Opening as framed
use Rattle.stable.specs.PagesState.{Pages}
use Rattle.dc_leaf.specs.Leaf.{LeafView}
use Rattle.dc_recovery.specs.Ready.{IsReadable, AreReadable}
use Rattle.dc_recovery.specs.Laws.{IsArranged}
use Rattle.dc_store.specs.Devices.{framing, IsPage, pages_of}
use Rattle.dc_store.specs.SystemView.{SystemView}

-- the bytes are the frames of these records, and after them nothing or a frame that is cut
abbrev pub HoldsFrames : List ℕ → List DcRecord → Type 0
HoldsFrames = framed.HoldsFrames framing

-- each page is the image of its own leaf, whose last change is among so many records
abbrev pub AreOwnPages : Pages → ℕ → Type 0
AreOwnPages pages count =
    (id : ℕ) (bytes : List ℕ) → get pages id ≡ Some bytes
    → (leaf : LeafView) × IsPage bytes leaf × (leaf.id ≡ id) × (leaf.last ≤ count)

-- the leaves that the bytes of the log and the pages give, and all that is kept besides: every record counts as stable
pub record Recovers (bytes : List ℕ) (pages : Pages) (v : SystemView) : Type 0 where
  pub frames : HoldsFrames bytes v.log
  pub readable : AreReadable (pages_of pages) v.log
  pub numbered : length v.log < 2 ^ 48
  pub own : AreOwnPages pages (length v.log)
  pub arranged : IsArranged (pages_of pages) v.log v.leaves
  pub stable : v.stable ≡ length v.log
  pub pages_are : v.pages ≡ pages

-- all records fit; but a page isn't the image of its own leaf, or the leaves don't have all keys among them, just once
pub record AreBadPages (bytes : List ℕ) (pages : Pages) : Type 0 where
  pub log : List DcRecord
  pub frames : HoldsFrames bytes log
  pub readable : AreReadable (pages_of pages) log
  pub numbered : length log < 2 ^ 48
  pub bad : (AreOwnPages pages (length log) → ⊥)
      ⊎ ((leaves : List LeafView) → IsArranged (pages_of pages) log leaves → ⊥)

-- why the log isn't read: where a frame is bad, its record names a leaf that isn't there, or a new one that isn't the
-- next, or has no number
abbrev pub RefusesFrames : List ℕ → Pages → Refusal → Type 0
RefusesFrames bytes pages = framed.RefusesBytes framing (AreReadable (pages_of pages)) (IsReadable (pages_of pages)) bytes

-- why the devices aren't opened
abbrev pub RefusesRecovery : List ℕ → Pages → Refusal → Type 0
RefusesRecovery bytes pages r =
    (r ≡ Device) ⊎ RefusesFrames bytes pages r ⊎ ((r ≡ BadBytes 0) × AreBadPages bytes pages)
