-- What each call gives, and what it leaves. A refused call leaves all as it was but for the usage of a device that
-- failed, unless its definition says more.
use Rattle.std.specs.Prelude.{◌≡◌, ◌⊎◌, ℕ, ◌+◌, ◌<◌, ◌||◌, Bool, true, not, List, [], ◌∷◌, Option, Some, None, Result, Ok, Err, IsTrue, length, nat_le}
use Rattle.std.specs.Bool.{MatchBool}
use Rattle.std.specs.List.{AllByRecursion}
use Rattle.record_key.specs.declared.refusal.Refusal.{Refusal}
use Rattle.record_key.specs.declared.refusal.Refusal.TheVariants.{NoMemory, Device, NotNow, NumbersSpent}
use Rattle.record_key.specs.FirstCause.{first_of, MayRefuse}
use Rattle.record_key.specs.Table.{Bytes}
use Rattle.codec.specs.Images.{IsImage}
use Rattle.stable.specs.Usage.{is_due}
use Rattle.dc_leaf.specs.Leaf.{LeafView}
use Rattle.dc_leaf.specs.Tops.{is_within, are_within, all_within}
use Rattle.dc_tree.specs.Leaves.{leaf_at, place_at}
use Rattle.dc_tree.specs.Parting.{may_split_at, may_merge_at}
use Rattle.dc_recovery.specs.Images.{image_of}
use Rattle.dc_recovery.specs.Shape.{named}
use Rattle.dc_store.specs.Uses.{FailsWhenDue}
use Rattle.dc_store.specs.SystemView.{SystemView, log_refused, pages_refused}
use Rattle.dc_store.specs.Changes.{next_id, leaf_in, split_to, merged_to, first_large, first_pair, covered, written_to, written_all, lowered, taken_back, accepted, forced}
use Rattle.dc_store.specs.declared.tended.Neighbours.{Neighbours}
use Rattle.dc_store.specs.declared.tended.Tended.{Tended}
use Rattle.dc_store.specs.declared.tended.Tended.TheVariants as tended

-- the next number would be 2 to the power of 48
abbrev pub is_spent : ℕ → Bool
is_spent count = nat_le 281474976710655 count

-- why a call that appends a record is refused, and one that makes a leaf too
abbrev pub append_refusal : SystemView → Option Refusal
append_refusal v = first_of ((is_spent (length v.log), NumbersSpent) ∷ [])

abbrev pub make_refusal : SystemView → Option Refusal
make_refusal v = first_of ((is_spent (length v.log) || is_spent (named v.log), NumbersSpent) ∷ [])

-- neither the leaf at a place nor the one after it has an entry above the known end
abbrev pub pair_within : ℕ → SystemView → ℕ → Bool
pair_within known v p = are_within known (leaf_in v p) (leaf_in v (p + 1))

-- why a split is refused, and a merge: a leaf with an entry above the known end stays as it is
abbrev pub split_refusal : SystemView → Bytes → ℕ → Option Refusal
split_refusal v k known =
    first_of ((not (may_split_at v.leaves (place_at v.leaves k)), NotNow)
    ∷ (not (is_within known (leaf_in v (place_at v.leaves k))), NotNow)
    ∷ (is_spent (length v.log) || is_spent (named v.log), NumbersSpent) ∷ [])

abbrev pub merge_refusal : SystemView → Bytes → ℕ → Option Refusal
merge_refusal v k known =
    first_of ((not (may_merge_at v.leaves (place_at v.leaves k)), NotNow)
    ∷ (not (pair_within known v (place_at v.leaves k)), NotNow)
    ∷ (is_spent (length v.log), NumbersSpent) ∷ [])

-- a call that appends to the log was refused: for this cause, else for want of memory, or as the log's device failed
abbrev pub StopsAppend : Option Refusal → SystemView → Refusal → SystemView → Type 0
StopsAppend cause old r new = MayRefuse cause r × (new ≡ log_refused old r) × FailsWhenDue old.log_usage r

-- the leaf at a place was split
pub record Splits (old : SystemView) (p : ℕ) (pair : Neighbours) (new : SystemView) : Type 0 where
  pub may : may_split_at old.leaves p ≡ true
  pub unspent : make_refusal old ≡ None
  pub left : pair.left ≡ (leaf_in old p).id
  pub right : pair.right ≡ next_id old
  pub after : new ≡ split_to old p

-- the leaf at a place took in the one after it
pub record Merges (old : SystemView) (p : ℕ) (pair : Neighbours) (new : SystemView) : Type 0 where
  pub may : may_merge_at old.leaves p ≡ true
  pub unspent : append_refusal old ≡ None
  pub left : pair.left ≡ (leaf_in old p).id
  pub right : pair.right ≡ (leaf_in old (p + 1)).id
  pub after : new ≡ merged_to old p

-- the same, and no entry of theirs is above the known end
abbrev pub SplitsWithin : ℕ → SystemView → ℕ → Neighbours → SystemView → Type 0
SplitsWithin known old p pair new = (is_within known (leaf_in old p) ≡ true) × Splits old p pair new

abbrev pub MergesWithin : ℕ → SystemView → ℕ → Neighbours → SystemView → Type 0
MergesWithin known old p pair new = (pair_within known old p ≡ true) × Merges old p pair new

abbrev pub SplitGives : SystemView → Bytes → ℕ → Result Neighbours Refusal → SystemView → Type 0
SplitGives old k known (Ok pair) new = SplitsWithin known old (place_at old.leaves k) pair new
SplitGives old k known (Err r) new = StopsAppend (split_refusal old k known) old r new

abbrev pub MergeGives : SystemView → Bytes → ℕ → Result Neighbours Refusal → SystemView → Type 0
MergeGives old k known (Ok pair) new = MergesWithin known old (place_at old.leaves k) pair new
MergeGives old k known (Err r) new = StopsAppend (merge_refusal old k known) old r new

-- what tending does where leaves with an entry above the known end are passed over: the first large leaf is split,
-- else, where merges are let, the first two that may be are joined
pub data Tending : Type 0 where
  SplitsAt : ℕ → Tending
  MergesAt : ℕ → Tending
  Rests : Tending

abbrev pub merging : Bool → Option ℕ → Tending
merging true (Some p) = MergesAt p
merging _ _ = Rests

abbrev pub tending_of : Option ℕ → Tending → Tending
tending_of (Some p) other = SplitsAt p
tending_of None other = other

abbrev pub tending : SystemView → Bool → ℕ → Tending
tending v merges known = tending_of (first_large known v.leaves) (merging merges (first_pair known v.leaves))

abbrev pub TendsTo : ℕ → SystemView → Tending → Tended → SystemView → Type 0
TendsTo known old (SplitsAt p) (tended.Split pair) new = SplitsWithin known old p pair new
TendsTo known old (MergesAt p) (tended.Merged pair) new = MergesWithin known old p pair new
TendsTo known old Rests tended.Nothing new = new ≡ old
TendsTo known old _ _ new = ⊥

-- where nothing is to be tended it isn't refused
abbrev pub StopsTending : SystemView → Tending → Refusal → SystemView → Type 0
StopsTending old (SplitsAt p) r new = StopsAppend (make_refusal old) old r new
StopsTending old (MergesAt p) r new = StopsAppend (append_refusal old) old r new
StopsTending old Rests r new = ⊥

abbrev pub TendGives : SystemView → Bool → ℕ → Result Tended Refusal → SystemView → Type 0
TendGives old merges known (Ok what) new = TendsTo known old (tending old merges known) what new
TendGives old merges known (Err r) new = StopsTending old (tending old merges known) r new

-- the log's device failed in a force, or the pages' in a write
abbrev pub ForceFails : SystemView → SystemView → Type 0
ForceFails old new = (new ≡ log_refused old Device) × IsTrue (is_due old.log_usage)

abbrev pub WriteFails : SystemView → SystemView → Type 0
WriteFails old new = (new ≡ pages_refused old Device) × IsTrue (is_due old.page_usage)

-- a device failed where this leaf was written: in the force, if there had to be one, or in the write after it
abbrev pub FailsWriting : SystemView → LeafView → SystemView → Type 0
FailsWriting old leaf new = ((old.stable < leaf.last) × ForceFails old new) ⊎ WriteFails (covered old leaf) new

-- a write of this leaf was refused; where memory was, nothing has changed
abbrev pub StopsWriting : SystemView → LeafView → Refusal → SystemView → Type 0
StopsWriting old leaf r new = ((r ≡ NoMemory) × (new ≡ old)) ⊎ ((r ≡ Device) × FailsWriting old leaf new)

-- refused for an entry above the known end, and nothing has changed
abbrev pub StopsNotNow : SystemView → Refusal → SystemView → Type 0
StopsNotNow old r new = (r ≡ NotNow) × (new ≡ old)

-- a leaf without an entry above the known end was written
pub record Flushes (known : ℕ) (old : SystemView) (leaf : LeafView) (id : ℕ) (new : SystemView) : Type 0 where
  pub within : is_within known leaf ≡ true
  pub own : id ≡ leaf.id
  pub fits : IsImage (image_of leaf)
  pub after : new ≡ written_to old leaf

abbrev pub FlushGives : SystemView → Bytes → ℕ → Result ℕ Refusal → SystemView → Type 0
FlushGives old k known (Ok id) new = Flushes known old (leaf_at old.leaves k) id new
FlushGives old k known (Err r) new =
    MatchBool (is_within known (leaf_at old.leaves k)) (StopsWriting old (leaf_at old.leaves k) r new)
    (StopsNotNow old r new)

-- some of the leaves, from the first on, were written, and then a device failed
abbrev pub FailsAmong : SystemView → List LeafView → SystemView → Type 0
FailsAmong v [] new = ⊥
FailsAmong v (leaf ∷ leaves) new =
    FailsWriting v leaf new ⊎ (IsImage (image_of leaf) × FailsAmong (written_to v leaf) leaves new)

abbrev pub StopsAmong : SystemView → List LeafView → Refusal → SystemView → Type 0
StopsAmong v leaves r new = (r ≡ Device) × FailsAmong v leaves new

-- each leaf has an image
abbrev pub HaveImages : List LeafView → Type 0
HaveImages leaves = AllByRecursion (λ (leaf : LeafView). IsImage (image_of leaf)) leaves

-- all leaves, none with an entry above the known end, were raised and written
pub record Checkpoints (known : ℕ) (old : SystemView) (l : ℕ) (new : SystemView) : Type 0 where
  pub within : all_within known old.leaves ≡ true
  pub fit : HaveImages (lowered old l).leaves
  pub after : new ≡ written_all (lowered old l) (lowered old l).leaves

-- a checkpoint was refused; where memory was, nothing has changed
abbrev pub StopsCheckpoint : SystemView → ℕ → Refusal → SystemView → Type 0
StopsCheckpoint old l r new =
    ((r ≡ NoMemory) × (new ≡ old)) ⊎ StopsAmong (lowered old l) (lowered old l).leaves r new

abbrev pub CheckpointGives : SystemView → ℕ → ℕ → Result Unit Refusal → SystemView → Type 0
CheckpointGives old l known (Ok _) new = Checkpoints known old l new
CheckpointGives old l known (Err r) new =
    MatchBool (all_within known old.leaves) (StopsCheckpoint old l r new) (StopsNotNow old r new)

-- the session's record is stable, and what leaves did above the end is taken back. Where the force fails the record
-- stands in the log, and the leaves are as before
abbrev pub AcceptGives : SystemView → ℕ → ℕ → Result Unit Refusal → SystemView → Type 0
AcceptGives old s end (Ok _) new = (append_refusal old ≡ None) × (new ≡ taken_back (forced (accepted old s)) end)
AcceptGives old s end (Err r) new =
    StopsAppend (append_refusal old) old r new
    ⊎ ((append_refusal old ≡ None) × (r ≡ Device) × ForceFails (accepted old s) new)
