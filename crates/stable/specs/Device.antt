-- What the calls of a device do to it.
use Rattle.std.specs.Prelude.{◌≡◌, ℕ, List, ◌++◌, ⊤}
use Rattle.std.specs.Borrow.{follows_so, Fml, RattleType, MutBor}
use mathlib.Core.Option.{none}

-- a beginning of the pending bytes, perhaps none and perhaps all, is forced now, and no byte is lost or made
pub record ForcesPart (forced pending forced' pending' : List ℕ) : Type 0 where
  pub part : List ℕ
  pub forced_more : forced' ≡ forced ++ part
  pub still_pending : pending ≡ part ++ pending'

-- P holds of what the `&mut` points to once the result's borrow of it has ended
abbrev pub Rests : (R : RattleType) → MutBor R.Denot → (R.Denot → Type 0) → Fml
Rests R device P = follows_so R R device.ghost_name none (λ _ _. ⊤) P
