use Rattle.std.proofs.Common.{ap, sym, ◌∙◌, arith}
use Rattle.tc_locks.specs.Meant.{newest_first, items_of}
use Rattle.tc_locks.proofs.Leaving.{read, any_held}
use Rattle.tc_locks.proofs.held.Held.holds.Goals as goal

pub returns-in-Some : goal.returns-in-Some
returns-in-Some c = grind (arith, any_held)

pub returns-in-None : goal.returns-in-None
returns-in-None c = read c.args.self.now c.args.txn ∙ ap (λ o. newest_first (items_of o)) (sym c.in-None.ensures.value)
