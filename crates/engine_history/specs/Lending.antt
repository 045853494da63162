-- A value that is lent from where it is kept in little room.
use Rattle.engine_history.specs.declared.lent.Lent.{Lent}
use Rattle.engine_history.specs.declared.lent.Lent.TheVariants as is

abbrev pub lent : {A : Type 0} → Lent A → A
lent (is.Made value) = value
lent (is.Kept value) = value.now
