-- A call by a handle that has a node.
use Rattle.std.proofs.Common.{◌≡◌, ℤ, Option, Some, sym, subst}
use Rattle.jakumshe.specs.Holding.{OnNode}

pub on_node : {N : Type 0} (old new : Option N) (n m : N) (given : ℤ) (P : N → N → Type 0) → old ≡ Some n → new ≡ Some m
    → P n m → OnNode old new given P
on_node {N = N} old new n m given P had has done =
    subst (λ (o : Option N). OnNode o new given P) (sym had)
    (subst (λ (o : Option N). OnNode (Some n) o given P) (sym has) done)
