-- The exact bytes of refusals, and what it is to print.
use Rattle.std.specs.Prelude.{◌≡◌, ℕ, List, [], ◌∷◌, ◌++◌, Option, Some, None, Result, Ok, Err, codes, decimal, if◌then◌else◌}
use Rattle.std.specs.List.{concat, list_all}
use Rattle.std.specs.Char.{is_ascii_alphanumeric}
use Rattle.hex.specs.Hex.{encode_lower}
use Rattle.std.specs.Io.KnownBytes.{Appends}
use Rattle.record_key.specs.declared.refusal.Refusal.{Refusal}
use Rattle.record_key.specs.declared.refusal.Refusal.TheVariants as refusal
use Rattle.record_key.specs.Refusals.{number_of, name_of}
use Rattle.shell_scripts.specs.declared.pieces.Piece.{Piece}
use Rattle.shell_scripts.specs.declared.pieces.Piece.TheVariants as piece

-- a number sign and two hexadecimal digits for each byte
abbrev pub digits_text : List ℕ → List ℕ
digits_text bytes = codes "#" ++ encode_lower bytes

-- a key or a value: letters and digits for themselves, a dot where it is empty, else the digits of its bytes
abbrev pub shown : List ℕ → List ℕ
shown [] = codes "."
shown (b ∷ bs) = if list_all is_ascii_alphanumeric (b ∷ bs) then b ∷ bs else digits_text (b ∷ bs)

-- a key or a value, or a dash where there is none
abbrev pub shown_if : Option (List ℕ) → List ℕ
shown_if None = codes "-"
shown_if (Some bytes) = shown bytes

abbrev pub piece_text : Piece → List ℕ
piece_text (piece.Text text) = text.now
piece_text (piece.Key key) = shown key.now
piece_text (piece.Value value) = shown value.now
piece_text (piece.Number number) = decimal number

-- a text and a number
abbrev pub numbered : List ℕ → ℕ → List ℕ
numbered text number = concat (text ∷ decimal number ∷ codes "\n" ∷ [])

-- a text, and a key or a value
abbrev pub worded : List ℕ → List ℕ → List ℕ
worded text bytes = concat (text ∷ shown bytes ∷ codes "\n" ∷ [])

-- the number behind a refusal's name, where it has one
abbrev pub number_behind : Refusal → Option ℕ
number_behind (refusal.Busy holder) = Some holder
number_behind (refusal.BadScript line) = Some line
number_behind (refusal.BadBytes place) = Some place
number_behind _ = None

abbrev pub number_text : Option ℕ → List ℕ
number_text (Some number) = numbered (codes " ") number
number_text None = codes "\n"

abbrev pub refusal_text : Refusal → List ℕ
refusal_text r = concat (codes "no " ∷ decimal (number_of r) ∷ codes " " ∷ name_of r ∷ [])

abbrev pub refusal_line : Refusal → List ℕ
refusal_line r = refusal_text r ++ number_text (number_behind r)

-- the known bytes grow by a beginning of the text
pub record IsCut (old new : Option (List ℕ)) (text : List ℕ) : Type 0 where
  pub written : List ℕ
  pub left : List ℕ
  pub beginning : text ≡ written ++ left
  pub appended : Appends old new written

-- what a call does to the bytes that a writer holds, where they are known: it appends the text, or a beginning
-- of it where a write failed
abbrev pub Prints : {A E : Type 0} → Option (List ℕ) → Option (List ℕ) → Result A E → List ℕ → Type 0
Prints old new (Ok _) text = Appends old new text
Prints old new (Err _) text = IsCut old new text
