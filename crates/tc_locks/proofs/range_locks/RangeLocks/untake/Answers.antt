use Rattle.std.proofs.Common.{arith, false, refl, sym, ◌∙◌, subst}
use Rattle.tc_locks.specs.declared.entry.Entry.{Entry}
use Rattle.tc_locks.specs.Index.{IsKept}
use Rattle.tc_locks.proofs.Derived.{changed}
use Rattle.tc_locks.proofs.Indexing.{removed_index, kept_index}
use Rattle.tc_locks.proofs.range_locks.RangeLocks.untake.Goals as goal

pub invariant_of-self-then-not-has : goal.invariant_of-self-then-not-has
invariant_of-self-then-not-has c =
    let e : Entry = record { lock = c.pop-lock.result; txn = c.args.txn } in
    removed_index c.self.inside.held c.pop-lock.new.self c.args.txn c.in-Some.index c.remove.new.self
    (subst (IsKept c.self.inside.held) c.in-Some.is c.self.invariant) c.pop-lock.result c.ranges.txn.fits
    c.pop-lock.ensures.was c.pop-lock.ensures.others (sym c.has.ensures ∙ c.if-not-has.true)
    (changed false c.in-Some.index c.remove.new.self e e c.remove.ensures.updates.0 refl)

pub invariant_of-self-else-not-has : goal.invariant_of-self-else-not-has
invariant_of-self-else-not-has c = grind (arith, kept_index)
