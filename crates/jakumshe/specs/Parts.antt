-- A range that is read part by part.
use Rattle.std.specs.Prelude.{◌≡◌, ℕ, List, Option, None, Some, Result, Ok, Err, IsTrue, reverse}
use Rattle.record_key.specs.Rows.{Row}
use Rattle.record_key.specs.Order.{is_below, ends_above}
use Rattle.node_laws.specs.Node.{NodeView}
use Rattle.jakumshe.specs.declared.fault.Fault.{Fault}
use Rattle.jakumshe.specs.Calls.{Reads}

-- a part of a range from its lower end on ends where that does, or at a key within it, which is told
abbrev pub EndsPart : List ℕ → Option (List ℕ) → Option (List ℕ) → Option (List ℕ) → Type 0
EndsPart low high until None = until ≡ high
EndsPart low high until (Some key) = (until ≡ Some key) × IsTrue (is_below low key) × IsTrue (ends_above high key)

-- the transaction reads such a part
pub record ReadsPart (old : NodeView) (t : ℕ) (low : List ℕ) (high : Option (List ℕ)) (before kept : List Row) (given : Result ℕ Fault) (key : Option (List ℕ)) (new : NodeView) : Type 0 where
  pub until : Option (List ℕ)
  pub ends : EndsPart low high until key
  pub reads : Reads old t low until before kept given new

-- rows that were read are to be given the last one first
abbrev pub TurnsRows : Result ℕ Fault → List Row → List Row → Type 0
TurnsRows (Ok count) forward kept = kept ≡ reverse forward
TurnsRows (Err fault) forward kept = kept ≡ forward

-- the transaction reads a range backward
pub record ReadsBack (old : NodeView) (t : ℕ) (low : List ℕ) (high : Option (List ℕ)) (before kept : List Row) (given : Result ℕ Fault) (new : NodeView) : Type 0 where
  pub forward : List Row
  pub reads : Reads old t low high before forward given new
  pub turned : TurnsRows given forward kept

-- a part of a range from its upper end down begins where that does, or at a key within it, which is told
abbrev pub BeginsPart : List ℕ → Option (List ℕ) → List ℕ → Option (List ℕ) → Type 0
BeginsPart low high from None = from ≡ low
BeginsPart low high from (Some key) = (from ≡ key) × IsTrue (is_below low key) × IsTrue (ends_above high key)

-- the transaction reads such a part backward
pub record ReadsPartBack (old : NodeView) (t : ℕ) (low : List ℕ) (high : Option (List ℕ)) (before kept : List Row) (given : Result ℕ Fault) (key : Option (List ℕ)) (new : NodeView) : Type 0 where
  pub from : List ℕ
  pub begins : BeginsPart low high from key
  pub reads : ReadsBack old t from high before kept given new
