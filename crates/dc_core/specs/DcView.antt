-- What is seen of the data component.
use Rattle.std.specs.Prelude.{ℕ, Bool, false, List, [], ◌∷◌, Option, max}
use Rattle.std.specs.FinMap as map
use Rattle.record_key.specs.Table.{Table, Bytes}
use Rattle.dc_ab_lsn.specs.AbLsn.{captures}
use Rattle.dc_tree.specs.Leaves.{leaf_at}
use Rattle.dc_leaf.specs.Leaf.{LeafView}
use Rattle.dc_leaf.specs.Tops.{top}
use Rattle.stable.specs.Usage.{Usage}
use Rattle.dc_store.specs.SystemView.{SystemView, fresh_system}
use Rattle.dc_core.specs.declared.performance.Performance.{Performance}

-- the greatest session taken and the one that runs, 0 if none; whether redo goes on; up to which number no request is
-- lost any more, as far as is known; the greatest number of an entry when the leaves were opened, 0 if none; the
-- greatest low number when redo last ended, 0 if it hasn't since they were opened; the leaves with their log and pages;
-- and the records when they were opened, with what was performed since and wasn't taken back, the newest first
pub record DcView : Type 0 where
  pub stored : ℕ
  pub session : ℕ
  pub redo : Bool
  pub known : ℕ
  pub opened_to : ℕ
  pub redone_low : ℕ
  pub system : SystemView
  pub opened : Table
  pub performed : List Performance

abbrev pub leaves : DcView → List LeafView
leaves w = w.system.leaves

-- the leaf of the key has captured the number
abbrev pub captures_at : DcView → Bytes → ℕ → Bool
captures_at w k n = captures (leaf_at (leaves w) k).ab n

-- what stands at the key
abbrev pub value_at : DcView → Bytes → Option Bytes
value_at w k = map.get (leaf_at (leaves w) k).rows k

-- no session was taken, nothing was performed; the devices were used so
abbrev pub fresh_dc : Usage → Usage → DcView
fresh_dc log_usage page_usage = record {
  stored = 0;
  session = 0;
  redo = false;
  known = 0;
  opened_to = 0;
  redone_low = 0;
  system = fresh_system log_usage page_usage;
  opened = map.empty;
  performed = [];
}

-- the greatest number of an entry of the leaves, 0 if none
abbrev pub top_of : List LeafView → ℕ
top_of [] = 0
top_of (leaf ∷ leaves) = max (top leaf) (top_of leaves)

-- the greatest low number of the leaves, 0 if there is none
abbrev pub top_low : List LeafView → ℕ
top_low [] = 0
top_low (leaf ∷ leaves) = max leaf.ab.low (top_low leaves)
