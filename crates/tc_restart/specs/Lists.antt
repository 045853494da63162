-- Lists of numbers of a kind.
use Rattle.std.specs.Prelude.{◌≡◌, ℕ, ◌==◌, List}
use Rattle.std.specs.List.{All, count_by}

-- how often a number is listed
abbrev pub times : ℕ → List ℕ → ℕ
times n list = count_by (λ m. n == m) list

-- just the numbers of a kind are listed, each once
pub record Lists (P : ℕ → Type 0) (list : List ℕ) : Type 0 where
  pub right : All P list
  pub once : (n : ℕ) → P n → times n list ≡ 1
