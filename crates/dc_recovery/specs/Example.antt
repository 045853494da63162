-- A log with three cuts and a merge, and pages of different ages.
use Rattle.std.specs.Prelude.{◌≡◌, ℕ, ◌==◌, List, [], ◌∷◌, Option, Some, None, if◌then◌else◌}
use Rattle.record_key.specs.Table.{Bytes}
use Rattle.codec.specs.declared.image.LeafImage.{LeafImage}
use Rattle.codec.specs.declared.dc_record.DcRecord.{DcRecord}
use Rattle.codec.specs.declared.dc_record.DcRecord.TheVariants as is
use Rattle.dc_leaf.specs.Tiles.{Part}
use Rattle.dc_recovery.specs.Images.{leaf_of}
use Rattle.dc_recovery.specs.Shape.{shape, IsLegal}
use Rattle.dc_recovery.specs.Recovery.{Pages, recover, FitPages}
use Rattle.dc_recovery.specs.Leaves.{lasts_of}

-- a leaf without records
abbrev pub image : ℕ → ℕ → Option Bytes → Option Bytes → LeafImage
image id last low high =
    record { id = id; last = last; low = 0; low_fence = low; high_fence = high; rows = []; entries = [] }

-- three keys in order
abbrev pub b : Bytes
b = 98 ∷ []

abbrev pub m : Bytes
m = 109 ∷ []

abbrev pub t : Bytes
t = 116 ∷ []

-- leaf 1 is cut at m, its right half 2 at t, a session is accepted, 1 takes in 2, and is cut at b
abbrev pub log : List DcRecord
log =
    is.Split 1 b (image 4 5 (Some b) (Some t))
    ∷ is.Merge 1 2 (image 1 4 None (Some t))
    ∷ is.Accept 7
    ∷ is.Split 2 t (image 3 2 (Some t) None)
    ∷ is.Split 1 m (image 2 1 (Some m) None)
    ∷ []

-- 1 was written after its first cut, 2 before its cut and is gone since, 3 and 4 never
abbrev pub pages : Pages
pages id =
    if id == 1
    then Some (leaf_of (image 1 1 None (Some m)))
    else (if id == 2 then Some (leaf_of (image 2 1 (Some m) None)) else None)

-- a part of a shape
abbrev pub part : ℕ → Option Bytes → Option Bytes → Part
part id low high = record { id = id; low = low; high = high }

-- the log is legal, the pages fit it once one record is forced, and three leaves are recovered
pub record ExampleHolds : Type 0 where
  pub legal : IsLegal log
  pub fit : FitPages pages log 1
  pub parts : shape log ≡ part 1 None (Some b) ∷ part 4 (Some b) (Some t) ∷ part 3 (Some t) None ∷ []
  pub lasts : lasts_of (recover pages log) ≡ 5 ∷ 5 ∷ 2 ∷ []
