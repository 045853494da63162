-- What is seen of either end of an agreement: its name, and the number.
use Rattle.std.specs.Prelude.{ℕ}

-- one end of an agreement
pub record Agreed : Type 0 where
  pub name : ℕ
  pub number : ℕ

abbrev pub agreed_at : ℕ → ℕ → Agreed
agreed_at name number = record { name = name; number = number }
