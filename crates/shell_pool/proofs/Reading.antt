-- A text that is written line by line.
use Rattle.std.proofs.Common.{◌≡◌, ◌<◌, ◌+◌, ℕ, List, ◌∷◌, ◌++◌, Option, ap, sym, subst, refl, ◌∙◌, append_assoc, add-one, drop, drop-cons, get_or, length}
use Rattle.std.specs.Io.KnownBytes.{Appends}
use Rattle.record_key.specs.Table.{Bytes}
use Rattle.shell_scripts.specs.Printed.{IsCut}
use Rattle.shell_scripts.proofs.Printing.{appends_then, cut_later, cut_longer}
use Rattle.shell_pool.specs.PoolText.{read_line, reads_text}

-- of the text all is written but this
pub record IsSoFar (old now : Option (List ℕ)) (text left : List ℕ) : Type 0 where
  pub written : List ℕ
  pub appended : Appends old now written
  pub whole : text ≡ written ++ left

pub so_far_next : (old now new : Option (List ℕ)) (text line left rest : List ℕ) → IsSoFar old now text left
    → left ≡ line ++ rest → Appends now new line → IsSoFar old new text rest
so_far_next old now new text line left rest s e more = record {
  written = s.written ++ line;
  appended = appends_then old now new s.written line s.appended more;
  whole = s.whole ∙ ap (λ v. s.written ++ v) e ∙ sym (append_assoc s.written line rest);
}

pub so_far_cut : (old now new : Option (List ℕ)) (text line left rest : List ℕ) → IsSoFar old now text left
    → left ≡ line ++ rest → IsCut now new line → IsCut old new text
so_far_cut old now new text line left rest s e cut =
    let P : List ℕ → Type 0 = λ v. IsCut old new v in
    let whole : text ≡ (s.written ++ line) ++ rest =
    s.whole ∙ ap (λ v. s.written ++ v) e ∙ sym (append_assoc s.written line rest) in
    subst P (sym whole)
    (cut_longer old new (s.written ++ line) rest (cut_later old now new s.written line s.appended cut))

-- the next client's line, and then those of the others
pub reads_next : (before i : ℕ) (values : List (Option Bytes)) (value : Option Bytes) → i < length values
    → value ≡ get_or values i value
    → reads_text before (drop i values) ≡ read_line (before + 1) value ++ reads_text (before + 1) (drop (i + 1) values)
reads_next before i values value lt at =
    let here : drop i values ≡ get_or values i value ∷ drop (i + 1) values =
    rw (add-one, drop-cons values i value) refl in
    ap (reads_text before) here
    ∙ ap (λ v. read_line (before + 1) v ++ reads_text (before + 1) (drop (i + 1) values)) (sym at)
