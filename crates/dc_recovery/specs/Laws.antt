-- What is true of recovery, whatever beginning of the log a crash left.
use Rattle.std.specs.Prelude.{◌≡◌, ◌⊎◌, ℕ, ◌+◌, ◌<◌, ◌≤◌, List, [], ◌∷◌, ◌++◌, Option, Some, None, filter, length}
use Rattle.record_key.specs.Table.{Bytes}
use Rattle.history.specs.declared.record.Record.{Record}
use Rattle.codec.specs.declared.dc_record.DcRecord.{DcRecord}
use Rattle.codec.specs.declared.dc_record.DcRecord.TheVariants as is
use Rattle.dc_leaf.specs.Leaf.{LeafView, first}
use Rattle.dc_leaf.specs.Honest.{IsHonestLeaf}
use Rattle.dc_leaf.specs.Parting.{lower_of}
use Rattle.dc_leaf.specs.Tiles.{part_of, parts_of, holds, IsInside, Tile}
use Rattle.dc_recovery.specs.Images.{leaf_of}
use Rattle.dc_recovery.specs.Shape.{part_in, shape, named, IsLegal, IsOnce}
use Rattle.framed_log.specs.Beginning.{beginning}
use Rattle.dc_recovery.specs.Recovery.{Pages, recovered, recover, FitPages}

-- the shape's parts tile the keys, so each key is in exactly one; no number stands twice and none is above the
-- greatest named
pub record IsWellFormed (log : List DcRecord) : Type 0 where
  pub tile : Tile (shape log)
  pub once : IsOnce (shape log)
  pub known : (id : ℕ) → named log < id → part_in id (shape log) ≡ None
  pub covers : (k : Bytes) → length (filter (holds k) (shape log)) ≡ 1

-- the shape of a legal log is well formed
abbrev pub ShapesAreWellFormed : Type 0
ShapesAreWellFormed = (log : List DcRecord) → IsLegal log → IsWellFormed log

-- the leaf in a record
abbrev pub leaf_in : DcRecord → Option LeafView
leaf_in (is.Accept session) = None
leaf_in (is.Split left cut right) = Some (leaf_of right)
leaf_in (is.Merge left right merged) = Some (leaf_of merged)

-- records with a leaf of this number are no later
abbrev pub IsSeen : ℕ → ℕ → List DcRecord → Type 0
IsSeen id n [] = Unit {0}
IsSeen id n (r ∷ log) =
    ((leaf : LeafView) → leaf_in r ≡ Some leaf → leaf.id ≡ id → length log + 1 ≤ n) × IsSeen id n log

-- a leaf as the log has it: with the fences of the shape, which are those that it had when it last changed
pub record IsCurrent (log : List DcRecord) (id : ℕ) (leaf : LeafView) : Type 0 where
  pub own : leaf.id ≡ id
  pub last : leaf.last ≤ length log
  pub fences : part_in id (shape log) ≡ Some (part_of leaf)
  pub written : part_in id (shape (beginning log leaf.last)) ≡ Some (part_of leaf)
  pub seen : IsSeen id leaf.last log

-- the leaves that are recovered are those of the shape, with its fences
pub record HasShape (pages : Pages) (log : List DcRecord) : Type 0 where
  pub each : (id : ℕ) (leaf : LeafView) → recovered pages log id ≡ Some leaf → IsCurrent log id leaf
  pub none : (id : ℕ) → part_in id (shape log) ≡ None → recovered pages log id ≡ None
  pub all : parts_of (recover pages log) ≡ shape log

-- whatever the ages of the pages
abbrev pub RecoveredHaveShape : Type 0
RecoveredHaveShape =
    (pages : Pages) (log : List DcRecord) (forced : ℕ) → IsLegal log → FitPages pages log forced → HasShape pages log

-- the leaf stands in the list
abbrev pub IsIn : LeafView → List LeafView → Type 0
IsIn x [] = ⊥
IsIn x (y ∷ ys) = (x ≡ y) ⊎ IsIn x ys

-- just the leaves that are recovered, and they tile the keys
pub record IsArranged (pages : Pages) (log : List DcRecord) (leaves : List LeafView) : Type 0 where
  pub tile : Tile (parts_of leaves)
  pub sound : (leaf : LeafView) → IsIn leaf leaves → recovered pages log leaf.id ≡ Some leaf
  pub whole : (id : ℕ) (leaf : LeafView) → recovered pages log id ≡ Some leaf → IsIn leaf leaves

-- the leaves that are recovered have an arrangement, and no other
abbrev pub ArrangedOnce : Type 0
ArrangedOnce =
    (pages : Pages) (log : List DcRecord) (forced : ℕ) → IsLegal log → FitPages pages log forced
    → IsArranged pages log (recover pages log)
    × ((leaves : List LeafView) → IsArranged pages log leaves → leaves ≡ recover pages log)

-- the leaf of this number has no page that knows of this record
abbrev pub IsUnseen : Pages → ℕ → ℕ → Type 0
IsUnseen pages id d = (page : LeafView) → pages id ≡ Some page → page.last < d

-- each leaf of this number in a record that its page doesn't know of has it
abbrev pub LoggedHave : (LeafView → Type 0) → Pages → ℕ → List DcRecord → Type 0
LoggedHave P pages id [] = id ≡ 1 → pages id ≡ None → P first
LoggedHave P pages id (r ∷ log) =
    ((leaf : LeafView) → leaf_in r ≡ Some leaf → leaf.id ≡ id → IsUnseen pages id (length log + 1) → P leaf)
    × LoggedHave P pages id log

-- each leaf of this number that recovery may take has it: the page, and those in records
pub record SourcesHave (P : LeafView → Type 0) (pages : Pages) (id : ℕ) (log : List DcRecord) : Type 0 where
  pub page : (page : LeafView) → pages id ≡ Some page → P page
  pub logged : LoggedHave P pages id log

-- a cut inside the fences, later than what the leaf has, keeps it
abbrev pub IsKeptByCuts : (LeafView → Type 0) → Type 0
IsKeptByCuts P =
    (leaf : LeafView) (d : ℕ) (cut : Bytes) → leaf.last < d → IsInside (part_of leaf) cut → P leaf
    → P (lower_of leaf cut d)

-- so a recovered leaf has what its sources have and cuts keep
abbrev pub RecoveredHave : Type 1
RecoveredHave =
    (P : LeafView → Type 0) (pages : Pages) (log : List DcRecord) (forced id : ℕ) (leaf : LeafView)
    → IsKeptByCuts P → IsLegal log → FitPages pages log forced → SourcesHave P pages id log
    → recovered pages log id ≡ Some leaf → P leaf

-- a beginning that serves recovery as well as the whole log
pub record IsSafeBeginning (pages : Pages) (older : List DcRecord) (forced : ℕ) : Type 0 where
  pub legal : IsLegal older
  pub fit : FitPages pages older forced

-- each beginning with all that was forced does
abbrev pub BeginningsAreSafe : Type 0
BeginningsAreSafe =
    (pages : Pages) (newer older : List DcRecord) (forced : ℕ) → IsLegal (newer ++ older)
    → FitPages pages (newer ++ older) forced → forced ≤ length older → IsSafeBeginning pages older forced

-- a cut leaves a leaf honest
abbrev pub CutsKeepHonest : Type 0
CutsKeepHonest = (log : List Record) → IsKeptByCuts (IsHonestLeaf log)
