-- The lines of a log, one after another.
use Rattle.std.proofs.Common.{◌≡◌, ℕ, ◌+◌, ◌-◌, ◌<◌, zero, suc, List, [], ◌++◌, Option, ap, sym, ◌∙◌, subst, append_assoc, append-nil, add-one, arith}
use Rattle.std.specs.Io.KnownBytes.{Appends}
use Rattle.history.specs.declared.record.Record.{Record}
use Rattle.history.specs.Log.{record_at}
use Rattle.shell_scripts.specs.Printed.{IsCut}
use Rattle.shell_scripts.specs.Logged.{lines_to, line_at}
use Rattle.shell_scripts.proofs.Printing.{cut_longer, cut_later}

lines_grow : (log : List Record) (n k m : ℕ) → m ≡ n + k → (rest : List ℕ) × (lines_to log m ≡ lines_to log n ++ rest)
lines_grow log n zero m e = let same : m ≡ n = omega arith in
    ([], ap (lines_to log) same ∙ sym (append-nil (lines_to log n)))
lines_grow log n (suc k) zero e = absurd (omega arith)
lines_grow log n (suc k) (suc m) e =
    let before = lines_grow log n k m (omega arith) in (
      before.0 ++ line_at (suc m) (record_at log (suc m)),
      ap (λ v. v ++ line_at (suc m) (record_at log (suc m))) before.1
          ∙ append_assoc (lines_to log n) before.0 (line_at (suc m) (record_at log (suc m))),
    )

-- the lines up to a record, and a beginning of that record's
pub cut_in_records : (log : List Record) (a b c : Option (List ℕ)) (n count : ℕ) → n < count
    → Appends a b (lines_to log n) → IsCut b c (line_at (n + 1) (record_at log (n + 1)))
    → IsCut a c (lines_to log count)
cut_in_records log a b c n count lt before cut =
    let P : List ℕ → Type 0 = λ v. IsCut a c v in
    let Q : ℕ → Type 0 = λ m. IsCut b c (line_at m (record_at log m)) in
    let more = lines_grow log (suc n) (count - suc n) count (omega arith) in
    subst P (sym more.1) (cut_longer a c (lines_to log (suc n)) more.0
    (cut_later a b c (lines_to log n) (line_at (suc n) (record_at log (suc n))) before (subst Q (add-one n) cut)))
