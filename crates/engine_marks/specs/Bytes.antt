-- How much room a type takes.
use Rattle.std.specs.Prelude.{ℕ}
use Rattle.std.specs.Borrow.{RattleType}
use prog.Memory.{size}
use denote.Param.{layout}

-- how many bytes a value of the type has
abbrev pub bytes_of : RattleType → ℕ
bytes_of R = size (layout R)
