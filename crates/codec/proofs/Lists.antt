-- Numbers, rows and entries: what is read is spelled so, and what has a spelling is read again.
use Rattle.std.proofs.Common.{◌≡◌, ℕ, ◌<◌, ◌+◌, ◌^◌, List, ◌++◌, length, refl, arith}
use Rattle.std.specs.List.{AllByRecursion}
use Rattle.std.proofs.lemmas.List.{length-append}
use Rattle.record_key.specs.Rows.{Row, rises}
use Rattle.record_key.specs.declared.entry.Entry.{Entry}
use Rattle.codec.specs.Fields.{number, IsNumber, text, answer_bytes, counted}
use Rattle.codec.specs.Rows.{row_bytes, IsRow, rows_bytes, AreRows}
use Rattle.codec.specs.Entries.{entry_bytes, IsEntry, entries_bytes, AreEntries}
use Rattle.codec.specs.Reading.{pair, number_at, row_at, rows_at, counted_at, entry_at, entries_at}
use Rattle.codec.proofs.Readers.{IsReader, both, mapped_reads, where_reads}
use Rattle.codec.proofs.Fields.{numbers_length, number_reads, key_reads, answer_reads, row_reads}
use Rattle.codec.proofs.Items.{counted_reads}

-- two numbers
pub numbers_read : IsReader (ℕ × ℕ) (λ p. number p.0 ++ number p.1) (λ p. IsNumber p.0 × IsNumber p.1)
    (pair number_at number_at)
numbers_read = both number_reads number_reads

pub rows_read : IsReader (List Row) rows_bytes AreRows rows_at
unfolding rows_bytes rows_at
rows_read = where_reads (List Row) (counted row_bytes) (λ rows. (length rows < 2 ^ 64) × AllByRecursion IsRow rows)
    (counted_at row_at) (counted_reads Row row_bytes IsRow row_at row_reads) rises

entry_reads : IsReader Entry entry_bytes IsEntry entry_at
entry_reads = mapped_reads _ Entry _ _ _ entry_bytes IsEntry (both number_reads (both key_reads answer_reads))
    (λ p. record { number = p.0; key = p.1.0; answer = p.1.1 }) (λ entry. (entry.number, (entry.key, entry.answer)))
    (λ p. refl) (λ p has. has) (λ entry. refl) (λ entry has. has)

pub entries_read : IsReader (List Entry) entries_bytes AreEntries entries_at
unfolding entries_bytes entries_at
entries_read = counted_reads Entry entry_bytes IsEntry entry_at entry_reads

pub entry_length : (entry : Entry)
    → length (entry_bytes entry) ≡ 8 + (length (text entry.key) + length (answer_bytes entry.answer))
entry_length entry = omega (
  arith,
  numbers_length entry.number (text entry.key ++ answer_bytes entry.answer),
  length-append (text entry.key) (answer_bytes entry.answer),
)
