-- The words of a line: labels, numbers, keys and values.
use Rattle.std.specs.Prelude.{ℕ, ◌+◌, ◌-◌, ◌*◌, ◌^◌, ◌==◌, ◌||◌, ◌&&◌, Bool, not, List, [], ◌∷◌, Option, Some, None, Result, Ok, Err, length, codes, decimal, bytes_eq, option_map, nat_le, nat_lt, if◌then◌else◌}
use Rattle.std.specs.List.{slice_split, list_all, list_any}
use Rattle.std.specs.Char.{is_ascii_alphanumeric, is_ascii_lowercase, is_ascii_uppercase, is_ascii_digit}
use Rattle.hex.specs.Hex.{decode_of}
use Rattle.hex.specs.declared.error.FromHexError.{FromHexError}

-- what stands between spaces: one space at each end of a word, so two in a row have an empty word between them
abbrev pub words_of : List ℕ → List (List ℕ)
words_of bytes = slice_split (λ b. b == 32) bytes

-- 1 to 8 lower case letters or digits
abbrev pub is_label : List ℕ → Bool
is_label word = not (length word == 0) && nat_le (length word) 8
    && list_all (λ b. is_ascii_lowercase b || is_ascii_digit b) word

abbrev pub label_in : List ℕ → Option (List ℕ)
label_in word = if is_label word then Some word else None

-- one or more letters or digits
abbrev pub is_plain : List ℕ → Bool
is_plain word = not (length word == 0) && list_all is_ascii_alphanumeric word

-- a text: a dot for the empty one
abbrev pub text_in : List ℕ → Option (List ℕ)
text_in word = if bytes_eq word (codes ".") then Some [] else (if is_plain word then Some word else None)

-- the bytes of digits that were decoded
abbrev pub decoded : Result (List ℕ) FromHexError → Option (List ℕ)
decoded (Ok bytes) = Some bytes
decoded (Err e) = None

-- the bytes of two lower case hexadecimal digits each, 1 to 120 of them
abbrev pub bytes_in : List ℕ → Option (List ℕ)
bytes_in digits =
    if length digits == 0 || nat_lt 240 (length digits) || list_any is_ascii_uppercase digits then None
    else decoded (decode_of digits)

-- a key or a value: a text, or a number sign and the digits of its bytes
abbrev pub written_in : List ℕ → Option (List ℕ)
written_in [] = None
written_in (b ∷ bs) = if b == 35 then bytes_in bs else text_in (b ∷ bs)

-- an upper end: a star for none
abbrev pub end_in : List ℕ → Option (Option (List ℕ))
end_in word = if bytes_eq word (codes "*") then Some None else option_map Some (written_in word)

-- the number that these digits write behind those of n
abbrev pub value_behind : ℕ → List ℕ → ℕ
value_behind n [] = n
value_behind n (b ∷ bs) = value_behind (n * 10 + (b - 48)) bs

-- this number, where it is below 2 to the power of 64 and the word is what is printed of it
abbrev pub amount_if : List ℕ → ℕ → Option ℕ
amount_if word n = if nat_lt n (2 ^ 64) && bytes_eq (decimal n) word then Some n else None

-- a decimal number below 2 to the power of 64, without leading zeros
abbrev pub amount_written : List ℕ → Option ℕ
amount_written word = amount_if word (value_behind 0 word)

abbrev pub if_short : Option ℕ → Option ℕ
if_short None = None
if_short (Some n) = if nat_lt n (2 ^ 48) then Some n else None

-- a decimal number below 2 to the power of 48, without leading zeros
abbrev pub number_in : List ℕ → Option ℕ
number_in word = if_short (amount_written word)
