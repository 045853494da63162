-- A message in a box of its own.
use Rattle.std.specs.Prelude.{Option, Some, None}
use Rattle.std.specs.Global.{Box}

-- what stands in the box, if there is one
abbrev pub unboxed : {A : Type 0} → Option (Box A) → Option A
unboxed None = None
unboxed (Some b) = Some b.value
