-- Why a node isn't renewed.
use Rattle.std.specs.Prelude.{◌≡◌, ◌⊎◌}
use Rattle.std.specs.FinMap.{entries}
use Rattle.record_key.specs.declared.refusal.Refusal.{Refusal}
use Rattle.record_key.specs.declared.refusal.Refusal.TheVariants.{NotNow}
use Rattle.dc_tree.specs.Leaves.{rows_of}
use Rattle.tc_rewriting.specs.Written.{RefusesRecords, count_with}
use Rattle.node_world.specs.dc_core.specs.DcView.{leaves}
use Rattle.node_world.specs.node_laws.specs.Node.{NodeView}
use Rattle.node_world.specs.Quiet.{IsQuiet}

-- something is left to do in it, or somebody is open; or none of this, and its rows aren't written or opened
abbrev pub RefusesRenewal : NodeView → Refusal → Type 0
RefusesRenewal w r =
    ((r ≡ NotNow) × (IsQuiet w → ⊥))
    ⊎ (IsQuiet w × RefusesRecords (count_with 0 (entries (rows_of (leaves w.dc)))) r)
