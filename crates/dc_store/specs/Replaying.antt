-- What the places of leaves hold while a log is done again.
use Rattle.std.specs.Prelude.{◌≡◌, ℕ, ◌<◌, List, Option, length, nat_le, if◌then◌else◌}
use Rattle.codec.specs.declared.dc_record.DcRecord.{DcRecord}
use Rattle.stable.specs.PagesState.{Pages}
use Rattle.dc_leaf.specs.Leaf.{LeafView}
use Rattle.dc_recovery.specs.Recovery.{recovered}
use Rattle.dc_recovery.specs.Shape.{named}
use Rattle.dc_store.specs.Devices.{pages_of}
use Rattle.dc_store.specs.Shelf.{Slot, leaf_on}

-- the leaf of each page in its place
abbrev pub HoldsPages : Pages → List Slot → Type 0
HoldsPages pages slots = (id : ℕ) → id < length slots → leaf_on slots id ≡ pages_of pages id

-- a leaf that has been named is as it is once the records are done again, and of the others the pages are there
abbrev pub recovered_or : Pages → List DcRecord → ℕ → Option LeafView
recovered_or pages log id = if nat_le id (named log) then recovered (pages_of pages) log id else pages_of pages id

abbrev pub HoldsRecovered : Pages → List DcRecord → List Slot → Type 0
HoldsRecovered pages log slots = (id : ℕ) → id < length slots → leaf_on slots id ≡ recovered_or pages log id
