use Rattle.std.proofs.Common.{Bool, cond, Some, None, Result, Option, Ok, sym, ap, ◌∙◌}
use Rattle.std.specs.Prelude.{◌==◌}
use Rattle.std.specs.List.{list_any}
use Rattle.jakumshe.specs.declared.fault.Fault.{Fault}
use Rattle.jakumshe.specs.Calls.{commits}
use Rattle.jakumshe.proofs.told.has_committed.Goals as goal

pub returns-in-Stable-clause-yes : goal.returns-in-Stable-clause-yes
returns-in-Stable-clause-yes c so =
    let ends : Option (Result (Unit {0}) Fault) = Some (Ok tt) in
    ap (commits c.args.txn) c.in-Stable.is
    ∙ ap (λ (b : Bool). cond b ends None)
    (ap (list_any (λ u. u == c.args.txn)) (sym c.as_slice.ensures) ∙ sym c.contains.ensures.value ∙ so)
