use Rattle.std.proofs.Common.{arith, ◌≡◌, ◌∷◌, List, ◌++◌, [], sym, ap, ◌∙◌, subst}
use Rattle.std.specs.Global.{Vec}
use Rattle.std.specs.BTreeMap.{BTreeMap, insert_entry}
use Rattle.std.specs.Ordering.{nat_cmp}
use Rattle.tc_locks.specs.declared.span.Lock.{Lock}
use Rattle.tc_locks.specs.Meant.{items_of, locks_in, Lists}
use Rattle.tc_locks.proofs.Leaving.{kept, on_err}
use Rattle.tc_locks.proofs.Setting.{taken_new, taken_over}
use Rattle.tc_locks.proofs.held.Held.push.Goals as goal

pub returns-in_err-push-in-Some-clause-unchanged :
    goal.returns-in_err-push-in-Some-clause-unchanged
returns-in_err-push-in-Some-clause-unchanged c = grind (arith, on_err, kept)

there : (c : goal.In_ok-push-in-Some)
    → Lists c.args.self.now c.args.txn (locks_in c.args.self.now c.args.txn ++ c.args.lock ∷ [])
    (record { by_txn = c.get_mut.follows.lender c.push.new.self })
there c = grind arith

pub returns-in_ok-push-in-Some-clause-listed : goal.returns-in_ok-push-in-Some-clause-listed
returns-in_ok-push-in-Some-clause-listed c = there c

pub returns-in_ok-push-in-Some-clause-taken : goal.returns-in_ok-push-in-Some-clause-taken
returns-in_ok-push-in-Some-clause-taken c =
    let now = c.push.new.self in
    let found = c.in-Some.ensures.value in
    let items : now.items ≡ locks_in c.args.self.now c.args.txn ++ c.args.lock ∷ [] =
    ◌∙◌ {A = List Lock} c.in_ok-push-in-Some.ensures.items (ap (λ all. all ++ c.args.lock ∷ []) (ap items_of found)) in
    taken_over c.args.self.now (record { by_txn = c.get_mut.follows.lender now }) c.args.txn c.in-Some.locks.now now
    c.args.lock c.get_mut.ensures.ordered (sym found)
    (c.get_mut.follows.holds now).0 items

first : (c : goal.Joined-branch-4)
    → Lists c.args.self.now c.args.txn (locks_in c.args.self.now c.args.txn ++ c.args.lock ∷ [])
    (record { by_txn = c.insert.new.self })
first c = grind arith

pub returns-in_ok-insert-in-None-clause-listed : goal.returns-in_ok-insert-in-None-clause-listed
returns-in_ok-insert-in-None-clause-listed c = first c

pub returns-in_ok-insert-in-None-clause-taken : goal.returns-in_ok-insert-in-None-clause-taken
returns-in_ok-insert-in-None-clause-taken c =
    let entries : c.insert.new.self.entries
    ≡ insert_entry nat_cmp c.args.self.now.by_txn.entries c.args.txn c.push-in-None.new.self =
    subst (λ (m : BTreeMap _ (Vec Lock)). c.insert.new.self.entries
    ≡ insert_entry nat_cmp m.entries c.args.txn c.push-in-None.new.self) c.get_mut.follows.holds-at-none
    c.in_ok-insert-in-None.ensures.entries in
    let items = rw (c.new-locks.ensures.items) at c.in_ok-push-in-None.ensures.items in
    taken_new c.args.self.now (record { by_txn = c.insert.new.self }) c.args.txn c.push-in-None.new.self c.args.lock
    entries
    (items ∙ ap (λ all. all ++ c.args.lock ∷ []) (ap items_of c.in-None.ensures.value))
