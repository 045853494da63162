-- How much of a buffer its entries take.
use Rattle.std.specs.Prelude.{ℕ, ◌+◌, List}
use Rattle.std.specs.List.{sum_by}
use Rattle.record_key.specs.declared.slot.Slot.{Slot}
use Rattle.record_key.specs.Packed.{key_len, value_len}

-- what the key and the answer at a place take
abbrev pub packed_len : List ℕ → ℕ → ℕ
packed_len bytes place = 3 + key_len bytes place + value_len bytes place

-- what all entries take; the others were left by entries that were dropped
abbrev pub used_in : List ℕ → List Slot → ℕ
used_in bytes slots = sum_by (λ (s : Slot). packed_len bytes s.place) slots
