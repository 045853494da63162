-- The last record that isn't a Session, once one record more is taken in.
use Rattle.std.specs.Prelude.{ℕ}
use Rattle.history.specs.declared.record.Record.{Record}
use Rattle.history.specs.declared.record.Record.TheVariants.{Session}

-- its number, where this record has the number `n` and that of those before it was `last`
abbrev pub last_with : Record → ℕ → ℕ → ℕ
last_with Session n last = last
last_with r n last = n
