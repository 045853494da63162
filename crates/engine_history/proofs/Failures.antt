-- What the steps of a session's latest call failed by, one step on.
use Rattle.std.proofs.Common.{List, [], ◌∷◌, ◌++◌, Option, Some, None, refl, ap, sym, ◌∙◌, append_assoc}
use Rattle.std.proofs.lemmas.List.{append-nil}
use Rattle.node_sides.specs.node_laws.specs.Halves.{also}
use Rattle.engine_history.specs.InFlightCalls.{FailsSince}
use Rattle.engine_history.specs.Kept.{later_failure}
use Rattle.engine_history.specs.declared.failure.Failure.{Failure}

pub none_since : (fs : List Failure) → FailsSince fs fs None
none_since fs = ([], sym (append-nil fs))

pub since_on : (old mid new : List Failure) → FailsSince old mid None → FailsSince mid new None → FailsSince old new None
since_on old mid new (xs, x) (ys, y) = (xs ++ ys, y ∙ ap (λ (zs : List Failure). zs ++ ys) x ∙ append_assoc old xs ys)

pub also_since : (fs : List Failure) (o : Option Failure) → FailsSince fs (also fs o) None
also_since fs None = none_since fs
also_since fs (Some f) = (f ∷ [], refl)

-- the last one is of no matter any more
pub forgotten : (old mid : List Failure) (u : Option Failure) → FailsSince old mid u → FailsSince old mid None
forgotten old mid None is = is
forgotten old mid (Some f) (xs, x) = (xs ++ f ∷ [], x ∙ append_assoc old xs (f ∷ []))

pub failed_on : (old mid : List Failure) (u o : Option Failure) → FailsSince old mid u → FailsSince old (also mid o) (later_failure u o)
failed_on old mid u None is = is
failed_on old mid u (Some f) is =
    let n = forgotten old mid u is in
    (n.0, ap (λ (zs : List Failure). zs ++ f ∷ []) n.1)
