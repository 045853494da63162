-- The ends of an agreement name no thread's key, so they may go to another thread.
use mathlib.Core.List.{List, [], ◌∷◌}
use Prim.Native.Nat.{ℕ, zero, suc}
use base.Shift.{Keyless}
use denote.Param.Send.{IsSend}
use Rattle.core.specs.Sync.Ledger.{chain, row, Rule, book_owns, share_owns}
use Rattle.engine_agreement.specs.contracts.Far as Far
use Rattle.engine_agreement.specs.contracts.Near as Near

chain-Keyless : (xs : List (ℕ × ℕ)) (γ : ℕ) → Keyless (chain xs γ)
chain-Keyless [] γ = (tt, tt)
chain-Keyless (x ∷ xs) γ = λ c. (tt, (tt, (tt, chain-Keyless xs c.1)))

row_Keyless : (i : ℕ) (x : ℕ × ℕ) (γ : ℕ) → Keyless (row i x γ)
row_Keyless zero x γ = λ c. (tt, tt)
row_Keyless (suc i) x γ = λ c. (tt, row_Keyless i x c.1)

kept_keyless : (γ parts : ℕ) → Keyless (Rule γ parts)
kept_keyless γ parts = λ s. (chain-Keyless ((0, s.0) ∷ s.1) γ, λ _. tt)

book_keyless : (γ parts total : ℕ) → Keyless (book_owns γ parts total)
unfolding book_owns
book_keyless γ parts total = (kept_keyless γ parts, row_Keyless 0 (0, total) γ)

share_keyless : (γ parts held amount : ℕ) → Keyless (share_owns γ parts held amount)
unfolding share_owns
share_keyless γ parts held amount = (kept_keyless γ parts, λ i. row_Keyless (suc i) (held, amount) γ)

pub far_send : IsSend Far.the_row
far_send = record { owned = λ d vs. ((λ vss. (tt, ((λ uss. (tt, tt)), tt))), book_keyless d.name 1 d.value); leaving = λ k f vs. tt }

pub near_send : IsSend Near.the_row
near_send = record { owned = λ d vs. ((λ vss. (tt, ((λ uss. (tt, tt)), tt))), share_keyless d.name 1 1 d.value); leaving = λ k f vs. tt }
