-- One row more is given.
use Rattle.std.proofs.Common.{ℕ, ◌+◌, ◌<◌, List, [], ◌∷◌, ◌++◌, length, ap, sym, ◌∙◌, append_assoc, reverse, arith}
use Rattle.std.specs.Prelude.{slice_set}
use Rattle.std.proofs.lemmas.List.{reverse-append, length-append}
use Rattle.record_key.specs.Rows.{Row}
use Rattle.jakumshe.specs.declared.records.RowBytes.{RowBytes}
use Rattle.jakumshe.specs.Records.{HoldsRow, HoldRows, GivesRows}

held_more : (room : List RowBytes) (rows : List Row) (b : RowBytes) (row : Row) → HoldRows room rows
    → length rows < length room → HoldsRow b row.0 row.1 → HoldRows (slice_set room (length rows) b) (rows ++ row ∷ [])
held_more [] rows b row held within holds = absurd (omega (arith, within))
held_more (r ∷ room) [] b row held within holds = (holds, tt)
held_more (r ∷ room) (x ∷ rows) b row held within holds =
    (held.0, held_more room rows b row held.1 (omega (arith, within)) holds)

pub one_more : (before after : List Row) (room : List RowBytes) (count : ℕ) (b : RowBytes) (row : Row)
    → GivesRows before (after ++ row ∷ []) room count → count < length room → HoldsRow b row.0 row.1
    → GivesRows before after (slice_set room count b) (count + 1)
one_more before after room count b row given within holds =
    let so_many : length given.rows < length room = omega (arith, within, given.counted) in
    record {
      rows = given.rows ++ row ∷ [];
      next = given.next ∙ ap (λ (rest : List Row). given.rows ++ rest) (reverse-append after (row ∷ []))
          ∙ sym (append_assoc given.rows (row ∷ []) (reverse after));
      held = rw (given.counted) (held_more room given.rows b row given.held so_many holds);
      counted = omega (arith, given.counted, length-append given.rows (row ∷ []));
    }
