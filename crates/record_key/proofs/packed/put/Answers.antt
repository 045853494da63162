use Rattle.std.proofs.Common.{ℕ, ap, ◌∙◌}
use Rattle.byteorder.specs.Endian.{big_bytes}
use Rattle.record_key.specs.Amounts.{amount_bytes}
use Rattle.record_key.proofs.packed.put.Goals as goal

pub value_of-value-requires : goal.value_of-value-requires
unfolding amount_bytes
value_of-value-requires c = c.to_be_bytes-amount.ensures ∙ ap (λ (n : ℕ). big_bytes 8 n) c.amount_of.ensures
