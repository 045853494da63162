-- The number that digits write.
use Rattle.std.proofs.Common.{◌≡◌, ℕ, ◌+◌, ◌-◌, ◌*◌, ◌<◌, ◌≤◌, List, [], ◌∷◌, Some, None, length, drop, get_or, nat_lt, if◌then◌else◌, ap, sym, ◌∙◌, refl, arith, add-one, drop-cons}
use Rattle.std.proofs.lemmas.Bool.Decides.{nat_tests}
use Rattle.shell_scripts.specs.Words.{value_behind}

-- more digits write no less
grows : (n : ℕ) (digits : List ℕ) → n ≤ value_behind n digits
grows n [] = omega arith
grows n (d ∷ ds) = let more : n * 10 + (d - 48) ≤ value_behind (n * 10 + (d - 48)) ds = grows (n * 10 + (d - 48)) ds in
    omega arith

none_at : (limit value : ℕ) → limit ≤ value → None ≡ (if nat_lt value limit then Some value else None)
none_at limit value h = grind (arith, nat_tests)

-- a beginning that writes too much does so whatever follows
pub too_great : (limit n i step value : ℕ) (digits : List ℕ) → i < length digits
    → value_behind n (drop i digits) ≡ value → step ≡ get_or digits i 0 - 48 → limit ≤ n * 10 + step
    → None ≡ (if nat_lt value limit then Some value else None)
too_great limit n i step value digits lt all is h =
    let here : drop i digits ≡ get_or digits i 0 ∷ drop (i + 1) digits = rw (add-one, drop-cons digits i 0) refl in
    let same : value_behind (n * 10 + (get_or digits i 0 - 48)) (drop (i + 1) digits) ≡ value =
    ap (value_behind n) (sym here) ∙ all in
    let more : n * 10 + (get_or digits i 0 - 48)
    ≤ value_behind (n * 10 + (get_or digits i 0 - 48)) (drop (i + 1) digits) =
    grows (n * 10 + (get_or digits i 0 - 48)) (drop (i + 1) digits) in
    none_at limit value (omega arith)
