-- How many values a slab has.
use Rattle.std.proofs.Common.{◌≡◌, ℕ, zero, suc, List, [], ◌∷◌, get_or, set, Option, Some, None, is_some, count_by, cond, ap, arith}
use Rattle.std.proofs.lemmas.List.Sums.{sum_by-cons}
use Rattle.slab.specs.Slab.{Slab, get, slab_len, with_value}

same_count : {X : Type 0} (slots : List (Option X)) (k : ℕ) (was value : X) → get_or slots k None ≡ Some was
    → count_by is_some (set slots k (Some value)) ≡ count_by is_some slots
same_count [] k was value held = absurd (cc)
same_count {X} (slot ∷ slots) zero was value held =
    let counted : Option X → ℕ = λ o. cond (is_some o) 1 0 in
    let one : counted slot ≡ 1 = ap counted held in
    omega (
      arith,
      one,
      sum_by-cons (λ o. cond (is_some o) 1 0) slot slots,
      sum_by-cons (λ o. cond (is_some o) 1 0) (Some value) slots,
    )
same_count (slot ∷ slots) (suc k) was value held =
    omega (
      arith,
      same_count slots k was value held,
      sum_by-cons (λ o. cond (is_some o) 1 0) slot slots,
      sum_by-cons (λ o. cond (is_some o) 1 0) slot (set slots k (Some value)),
    )

-- another value in place of one
pub same_len : {X : Type 0} (slab : Slab X) (k : ℕ) (was value : X) → get slab k ≡ Some was
    → slab_len (with_value slab k value) ≡ slab_len slab
same_len slab k was value held = same_count slab.slots k was value held
