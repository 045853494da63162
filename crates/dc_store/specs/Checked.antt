-- What a checkpoint has done for good: no leaf, now or recovered after a crash, has a low number below it.
use Rattle.std.specs.Prelude.{ℕ}
use Rattle.std.specs.List.{AllByRecursion}
use Rattle.dc_recovery.specs.Ready.{IsLow, IsReady}
use Rattle.dc_store.specs.Devices.{pages_of}
use Rattle.dc_store.specs.SystemView.{SystemView}

-- each leaf has a low number of at least this, and so have the pages and records that recovery takes leaves from,
-- wherever a crash ends the log
pub record IsChecked (l : ℕ) (v : SystemView) : Type 0 where
  pub leaves : AllByRecursion (IsLow l) v.leaves
  pub ready : IsReady (IsLow l) (pages_of v.pages) v.log v.stable

-- whatever was checked stays so
abbrev pub Checks : SystemView → SystemView → Type 0
Checks old new = (l : ℕ) → IsChecked l old → IsChecked l new
