-- Views with the same logs, stable ends and functions are one.
use Rattle.std.proofs.Common.{arith, ◌≡◌, ℕ, subst}
use Rattle.history.specs.ListMachine.{Machine}
use Rattle.simulation.specs.View.{View, StandsFor}

pub view_ext : (v w : View) → v.log ≡ w.log → v.stable ≡ w.stable → ((t : ℕ) → v.loses t ≡ w.loses t)
    → ((t : ℕ) → v.doing t ≡ w.doing t)
    → ((t : ℕ) → v.saves t ≡ w.saves t) → ((t : ℕ) → v.spans t ≡ w.spans t) → v ≡ w
view_ext v w log stable loses doing saves spans = grind arith

-- so what the one stands for the other does
pub stands_along : (v w : View) (m : Machine) → v.log ≡ w.log → v.stable ≡ w.stable → ((t : ℕ) → v.loses t ≡ w.loses t)
    → ((t : ℕ) → v.doing t ≡ w.doing t)
    → ((t : ℕ) → v.saves t ≡ w.saves t) → ((t : ℕ) → v.spans t ≡ w.spans t) → StandsFor v m → StandsFor w m
stands_along v w m log stable loses doing saves spans stands =
    subst (λ x. StandsFor x m) (view_ext v w log stable loses doing saves spans) stands
