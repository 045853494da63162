-- What holds of the leaves and their devices at every moment, and what besides makes them good after any crash.
use Rattle.std.specs.Prelude.{◌≡◌, ℕ, ◌<◌, ◌^◌, List, Some, length}
use Rattle.std.specs.List.{AllByRecursion}
use Rattle.std.specs.FinMap.{get}
use Rattle.dc_leaf.specs.Leaf.{LeafView}
use Rattle.dc_tree.specs.Leaves.{AreLeaves}
use Rattle.dc_recovery.specs.Images.{HasLeafNumbers}
use Rattle.dc_recovery.specs.Shape.{IsLegal, named}
use Rattle.dc_recovery.specs.Leaves.{AreCurrent}
use Rattle.dc_recovery.specs.Recovery.{FitPages}
use Rattle.dc_store.specs.Devices.{IsPage, pages_of, AreRecords}
use Rattle.dc_store.specs.SystemView.{SystemView}

-- whatever the devices held when they were opened
pub record IsSystem (v : SystemView) : Type 0 where
  -- the leaves have all keys among them, and numbers below 2 to the power of 48
  pub leaves : AreLeaves v.leaves
  pub numbers : AllByRecursion HasLeafNumbers v.leaves
  -- each record of the log has a spelling, and the next one a number below 2 to the power of 48 or none
  pub records : AreRecords v.log
  pub numbered : length v.log < 2 ^ 48
  pub named : named v.log < 2 ^ 48
  -- each page is an image
  pub pages : (id : ℕ) (bytes : List ℕ) → get v.pages id ≡ Some bytes → (leaf : LeafView) × IsPage bytes leaf

-- where nobody else wrote the devices: recovery after any crash gives leaves that have all keys among them
pub record IsRecoverable (v : SystemView) : Type 0 where
  -- each record of the log fits those before it
  pub legal : IsLegal v.log
  -- the leaves are those that the log says, with their fences
  pub current : AreCurrent v.log v.leaves
  -- each page is no younger than the stable records, with the fences that its leaf had then
  pub fit : FitPages (pages_of v.pages) v.log v.stable
