-- Entries, and their one spelling.
use Rattle.std.specs.Prelude.{ℕ, ◌<◌, ◌^◌, List, ◌++◌, length}
use Rattle.std.specs.List.{AllByRecursion}
use Rattle.record_key.specs.declared.entry.Entry.{Entry}
use Rattle.codec.specs.Fields.{number, IsNumber, text, IsKey, answer_bytes, IsAnswer, counted}

-- a number, a key and an answer
abbrev pub entry_bytes : Entry → List ℕ
entry_bytes entry = number entry.number ++ (text entry.key ++ answer_bytes entry.answer)

abbrev pub HasEntryNumber : Entry → Type 0
HasEntryNumber entry = IsNumber entry.number

abbrev pub IsEntry : Entry → Type 0
IsEntry entry = IsNumber entry.number × (IsKey entry.key × IsAnswer entry.answer)

-- how many, then each
unfoldable pub entries_bytes : List Entry → List ℕ
entries_bytes entries = counted entry_bytes entries

abbrev pub AreEntries : List Entry → Type 0
AreEntries entries = (length entries < 2 ^ 64) × AllByRecursion IsEntry entries
