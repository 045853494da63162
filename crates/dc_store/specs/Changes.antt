-- What each call does to the leaves, their log and their pages, and which calls of their devices succeed.
use Rattle.std.specs.Prelude.{ℕ, ◌+◌, List, [], ◌∷◌, get_or, length, map, nat_le, if◌then◌else◌}
use Rattle.std.specs.FinMap as table
use Rattle.codec.specs.declared.dc_record.DcRecord.TheVariants as is
use Rattle.codec.specs.Images.{image_bytes}
use Rattle.stable.specs.Usage.{called}
use Rattle.dc_leaf.specs.Leaf.{LeafView, first, raised_to}
use Rattle.dc_leaf.specs.TakingBack.{taken_back as leaf_taken_back}
pub use Rattle.dc_tree.specs.Choosing.{first_large, first_pair}
use Rattle.dc_tree.specs.Parting.{middle, split_at, merged_at}
use Rattle.dc_recovery.specs.Images.{image_of}
use Rattle.dc_recovery.specs.Leaves.{split_of, merge_of}
use Rattle.dc_recovery.specs.Shape.{named}
use Rattle.dc_store.specs.SystemView.{SystemView}

-- the numbers of the next record and of the next leaf
abbrev pub next_number : SystemView → ℕ
next_number v = length v.log + 1

abbrev pub next_id : SystemView → ℕ
next_id v = named v.log + 1

abbrev pub leaf_in : SystemView → ℕ → LeafView
leaf_in v p = get_or v.leaves p first

-- the leaf at a place is split; the record holds the new leaf
abbrev pub split_to : SystemView → ℕ → SystemView
split_to v p = record v {
  leaves = split_at p (next_id v) (next_number v) v.leaves;
  log = split_of v.log (leaf_in v p) (middle (leaf_in v p)) ∷ v.log;
  log_usage = called v.log_usage;
}

-- the leaf at a place and the one after it are joined; the record holds the leaf of both
abbrev pub merged_to : SystemView → ℕ → SystemView
merged_to v p = record v {
  leaves = merged_at p (next_number v) v.leaves;
  log = merge_of v.log (leaf_in v p) (leaf_in v (p + 1)) ∷ v.log;
  log_usage = called v.log_usage;
}

-- every record is stable
abbrev pub forced : SystemView → SystemView
forced v = record v { stable = length v.log; log_usage = called v.log_usage }

-- the log is forced where the leaf's last system transaction isn't stable
abbrev pub covered : SystemView → LeafView → SystemView
covered v leaf = if nat_le leaf.last v.stable then v else forced v

-- the leaf is written to its page
abbrev pub written_to : SystemView → LeafView → SystemView
written_to v leaf = record (covered v leaf) {
  pages = table.insert v.pages leaf.id (image_bytes (image_of leaf));
  page_usage = called v.page_usage;
}

-- the leaves are written one after another
abbrev pub written_all : SystemView → List LeafView → SystemView
written_all v [] = v
written_all v (leaf ∷ leaves) = written_all (written_to v leaf) leaves

-- each leaf counts every number up to this one as performed
abbrev pub lowered : SystemView → ℕ → SystemView
lowered v l = record v { leaves = map (λ leaf. raised_to leaf l) v.leaves }

-- what each leaf did above an end is taken back there
abbrev pub taken_back : SystemView → ℕ → SystemView
taken_back v end = record v { leaves = map (λ leaf. leaf_taken_back leaf end) v.leaves }

-- a session's record stands in the log
abbrev pub accepted : SystemView → ℕ → SystemView
accepted v session = record v { log = is.Accept session ∷ v.log; log_usage = called v.log_usage }
