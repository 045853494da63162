-- The end of the keys that begin with a text, from the text's last byte.
use Rattle.std.proofs.Common.{◌≡◌, ◌<◌, ◌≤◌, ℕ, ◌+◌, Bool, true, false, List, [], ◌∷◌, ◌++◌, Option, Some, None, refl, ap, ◌∙◌, arith}
use Rattle.std.specs.Prelude.{nat_lt, if◌then◌else◌}
use Rattle.std.proofs.lemmas.Bool.{ltb-true, ltb-false}
use Rattle.record_key.specs.Table.{Bytes}
use Rattle.row_ranges.specs.Beginnings.{end_behind, beginning_end}

greatest : (b : ℕ) (small : Bool) → nat_lt b 255 ≡ small → 255 ≤ b
    → (if small then Some ((b + 1) ∷ []) else None) ≡ None
greatest b true e most = let less : b < 255 = ltb-true b 255 e in absurd (omega arith)
greatest b false e most = refl

-- a last byte that is the greatest decides nothing
pub dropped : (bs : Bytes) (b : ℕ) → 255 ≤ b → beginning_end (bs ++ b ∷ []) ≡ beginning_end bs
dropped [] b most = greatest b (nat_lt b 255) refl most
dropped (x ∷ xs) b most = ap (end_behind x) (dropped xs b most)

smaller : (b : ℕ) (small : Bool) → nat_lt b 255 ≡ small → b < 255
    → (if small then Some ((b + 1) ∷ []) else None) ≡ Some ((b + 1) ∷ [])
smaller b true e less = refl
smaller b false e less = let most : 255 ≤ b = ltb-false b 255 e in absurd (omega arith)

-- another one is raised
pub raised : (bs : Bytes) (b : ℕ) → b < 255 → beginning_end (bs ++ b ∷ []) ≡ Some (bs ++ (b + 1) ∷ [])
raised [] b less = smaller b (nat_lt b 255) refl less
raised (x ∷ xs) b less = ap (end_behind x) (raised xs b less)
