-- What a force announces.
use Rattle.std.specs.Prelude.{Result, Ok, Err, IfOk, OnErr}
use Rattle.std.specs.Result.{result_unwrap_or}
use Rattle.std.proofs.Common.{◌≡◌, ℕ, ◌≤◌, Bool, true, false, true≢false, zero-le, sym, ◌∙◌, subst}
use Rattle.record_key.specs.declared.refusal.Refusal.{Refusal}
use Rattle.node_sides.specs.tc_core.specs.LowWater.{IsGreatestAnnounced}
use Rattle.node_sides.specs.tc_core.specs.TcView.{TcView}

-- where no more may be announced than was, all was
pub said_all : (tc : TcView) (up : Bool) (r : Result ℕ Refusal) (low heard said : ℕ) → low ≡ result_unwrap_or r 0
    → IfOk r (IsGreatestAnnounced tc) → OnErr r (up ≡ false) → low ≤ heard → heard ≡ said → up ≡ true
    → (l : ℕ) × IsGreatestAnnounced tc l × (l ≤ said)
said_all tc up (Ok l) low heard said is greatest down within same runs =
    (l, greatest, subst (λ (w : ℕ × ℕ). w.0 ≤ w.1) (λ i. (is i, same i)) within)
said_all tc up (Err refusal) low heard said is greatest down within same runs = absurd (true≢false (sym runs ∙ down))

-- where more may be, it is the greatest
pub greatest_of : (tc : TcView) (r : Result ℕ Refusal) (low heard : ℕ) → low ≡ result_unwrap_or r 0
    → IfOk r (IsGreatestAnnounced tc) → (low ≤ heard → ⊥) → IsGreatestAnnounced tc low
greatest_of tc (Ok l) low heard is greatest more = subst (IsGreatestAnnounced tc) (sym is) greatest
greatest_of tc (Err refusal) low heard is greatest more =
    absurd (more (subst (λ (l : ℕ). l ≤ heard) (sym is) zero-le))
