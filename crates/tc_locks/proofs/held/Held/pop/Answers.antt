use Rattle.std.proofs.Common.{◌≡◌, ◌<◌, sym, ap, ◌∙◌, length, arith}
use Rattle.std.proofs.lemmas.Grind.{common_steps}
use Rattle.tc_locks.specs.Meant.{items_of}
use Rattle.tc_locks.proofs.Leaving.{has_one, nonempty}
use Rattle.tc_locks.proofs.Setting.{untaken_some, untaken_last}
use Rattle.tc_locks.proofs.held.Held.pop.Goals as goal

pub unreachable-requires : goal.unreachable-requires
unreachable-requires c = grind (arith, has_one, nonempty)

pub unreachable-requires-in-None : goal.unreachable-requires-in-None
unreachable-requires-in-None c = grind (arith, has_one)

pub returns-then-is_empty-clause-untaken : goal.returns-then-is_empty-clause-untaken
returns-then-is_empty-clause-untaken c =
    let now = c.pop.new.self in
    let none : length now.items ≡ 0 = grind (arith, common_steps) in
    untaken_last c.args.self.now (record { by_txn = c.remove.new.self }) (c.get_mut.follows.lender now) c.args.txn now
    c.in-Some-pop.lock
    (c.get_mut.follows.holds now).0 c.remove.ensures.entries
    (ap items_of (sym c.in-Some.ensures.value) ∙ c.in-Some-pop.ensures.items) none

pub returns-else-is_empty-clause-untaken : goal.returns-else-is_empty-clause-untaken
returns-else-is_empty-clause-untaken c =
    let now = c.pop.new.self in
    let some : 0 < length now.items = grind (arith, common_steps) in
    untaken_some c.args.self.now (record { by_txn = c.get_mut.follows.lender now }) c.args.txn c.in-Some.locks.now now
    c.in-Some-pop.lock c.get_mut.ensures.ordered
    (sym c.in-Some.ensures.value) (c.get_mut.follows.holds now).0
    (ap items_of (sym c.in-Some.ensures.value) ∙ c.in-Some-pop.ensures.items) some
