-- What is told of an answer or of a value that was heard apart from it.
use Rattle.std.specs.Prelude.{ℕ, Option, Some, None, Result, Ok, Err}
use Rattle.record_key.specs.Table.{Bytes}
use Rattle.record_key.specs.declared.op.Answer.{Answer}
use Rattle.record_key.specs.declared.refusal.Refusal.{Refusal}
use Rattle.tc_core.specs.declared.told.Told.{Told}
use Rattle.tc_core.specs.declared.told.Told.TheVariants as told
use Rattle.tc_core.specs.declared.told.Heard.{Heard}
use Rattle.tc_core.specs.declared.told.Heard.TheVariants as heard

abbrev pub told_with : Option Answer → Heard → Told
told_with a heard.Nothing = told.Nothing
told_with a (heard.Undone n) = told.Undone n
told_with None (heard.Answered t) = told.Nothing
told_with (Some a) (heard.Answered t) = told.Answered t a

abbrev pub all_told : Option Answer → Result Heard Refusal → Result Told Refusal
all_told a (Ok what) = Ok (told_with a what)
all_told a (Err r) = Err r

-- what is told of a value that was read
abbrev pub told_row : Option Bytes → Option ℕ → Told
told_row value None = told.Nothing
told_row value (Some t) = told.Row t value
