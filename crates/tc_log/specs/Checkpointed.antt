-- The numbers that Checkpoint records name.
use Rattle.std.specs.Prelude.{◌≡◌, ℕ, nat_lt, List, Some, if◌then◌else◌}
use Rattle.history.specs.declared.record.Record.{Record}
use Rattle.history.specs.declared.record.Record.TheVariants as is
use Rattle.history.specs.Log.{record_at}

-- a Checkpoint record names the number
abbrev pub IsCheckpointed : List Record → ℕ → Type 0
IsCheckpointed log low = (n : ℕ) × (record_at log n ≡ Some (is.Checkpoint low))

-- the greater of a number and the one that the record names as a checkpoint
abbrev pub raised_by : Record → ℕ → ℕ
raised_by (is.Checkpoint low) c = if nat_lt c low then low else c
raised_by _ c = c
