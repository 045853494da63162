-- What a crash leaves of a log.
use Rattle.std.specs.Prelude.{◌≡◌, ℕ, List, ◌++◌}

-- the list begins with these
abbrev pub BeginsWith : List ℕ → List ℕ → Type 0
BeginsWith whole part = (rest : List ℕ) × (whole ≡ part ++ rest)

-- A crash may leave a beginning of the appended bytes that has at least all forced ones.
pub record MayLeave (forced pending left : List ℕ) : Type 0 where
  pub beginning : BeginsWith (forced ++ pending) left
  pub has_forced : BeginsWith left forced
