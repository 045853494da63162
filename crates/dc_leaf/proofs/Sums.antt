-- How long a sum is.
use Rattle.std.proofs.Common.{◌≡◌, ℕ, ◌+◌, ◌%◌, ◌^◌, List, length, Some, None, sym, ap, ◌∙◌, inl, inr}
use Rattle.std.proofs.lemmas.Bool.{cases_Bool}
use Rattle.std.proofs.lemmas.Option.{same_Some}
use Rattle.record_key.specs.Amounts.{amount_bytes, amount_in, is_number, summed}
use Rattle.record_key.proofs.Adds.{summed_number, summed_none}
use Rattle.record_key.proofs.Amounts.{amount_length}

-- a sum has the eight bytes of a number
pub sum_length : (v : List ℕ) (x : ℕ) (sum : List ℕ) → summed v x ≡ Some sum → length sum ≡ 8
sum_length v x sum is =
    elim (cases_Bool (is_number v)) [
      | inl number ↦
          let n : ℕ = (amount_in v + x) % 2 ^ 64 in
          let same : sum ≡ amount_bytes n = same_Some sum (amount_bytes n) (sym is ∙ summed_number v x number) in
          ap length same ∙ amount_length n
      | inr none ↦
          let absent : Some sum ≡ None = sym is ∙ summed_none v x none in
          absurd (cc)
    ]
