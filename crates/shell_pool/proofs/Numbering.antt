-- How many sessions are numbered.
use Rattle.std.proofs.Common.{◌≡◌, ◌∙◌, ℕ, zero, suc, List, [], ◌∷◌, ap, arith, length, length-append, refl, sym}
use Rattle.std.proofs.lemmas.List.{length-map}
use Rattle.engine_monitor.specs.engine_guarded.specs.engine_history.specs.Callers.{SessionView}
use Rattle.engine_monitor.specs.engine_guarded.specs.engine_history.specs.Closing.{below, numbers_named}

length-below : (n : ℕ) → length (below n) ≡ n
length-below zero = refl
length-below (suc n) = omega (arith, length-append (below n) (n ∷ []), length-below n)

-- as many as the numbers that they have
pub numbered : (ss : List SessionView) (n : ℕ) → numbers_named ss ≡ below n → length ss ≡ n
numbered ss n are = sym (length-map ss (λ (s : SessionView). s.number)) ∙ ap length are ∙ length-below n
