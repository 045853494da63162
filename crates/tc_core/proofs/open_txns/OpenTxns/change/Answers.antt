use Rattle.std.proofs.Common.{sym, ◌∙◌}
use Rattle.tc_core.specs.Changed.{happens}
use Rattle.tc_core.proofs.Slots.{Holds}
use Rattle.tc_core.proofs.InSlots.{slot_at, found_at, not_found}
use Rattle.tc_core.proofs.Changing.{changes, changes_none}
use Rattle.tc_core.proofs.SlabLen.{same_len}
use Rattle.slab.specs.Slab.{with_value}
use Rattle.tc_core.proofs.open_txns.OpenTxns.change.Goals as goal

now : (c : goal.After-self-in-Some-get_mut-1)
    → Holds (with_value c.self.inside.txns c.index.result.now.1 c.make_change.new.open_txn) c.self.inside.slots.items
    (happens c.args.txn c.args.what c.args.self.now)
now c =
    let old = c.self.inside in
    let slot = slot_at old.slots.items c.in-Some.place c.args.txn (rw (← c.deref.ensures.value) c.in-Some.ensures.found)
    c.index.result.now c.index.ensures in
    rw c.make_change.ensures
    (changes c.args.what c.args.txn old.txns old.slots.items c.args.self.now c.self.invariant.each c.self.view_is c.in-Some.place
    c.index.result.now.1 c.in-Some-get_mut.open_txn.now slot (sym c.in-Some-get_mut.ensures.value))

pub invariant_of-self : goal.invariant_of-self
invariant_of-self c = record {
  each = (now c).are;
  as_many =
      same_len c.self.inside.txns c.index.result.now.1 c.in-Some-get_mut.open_txn.now c.make_change.new.open_txn
      (sym c.in-Some-get_mut.ensures.value)
      ∙ c.self.invariant.as_many;
}

pub returns-in-Some-get_mut : goal.returns-in-Some-get_mut
returns-in-Some-get_mut c = (now c).view

pub returns-in_default-get_mut : goal.returns-in_default-get_mut
returns-in_default-get_mut c =
    let old = c.self.inside in
    let slot = slot_at old.slots.items c.in-Some.place c.args.txn (rw (← c.deref.ensures.value) c.in-Some.ensures.found)
    c.index.result.now c.index.ensures in
    c.self.view_is
    ∙ changes_none c.args.what c.args.txn c.args.self.now
    (found_at old.txns c.args.txn old.slots.items c.args.self.now c.self.invariant.each c.self.view_is c.in-Some.place
    c.index.result.now.1 slot ∙ sym c.in_default-get_mut.ensures.value)

pub returns-in_default : goal.returns-in_default
returns-in_default c =
    let old = c.self.inside in
    changes_none c.args.what c.args.txn c.args.self.now
    (not_found old.txns c.args.txn old.slots.items c.args.self.now c.self.invariant.each c.self.view_is
    (rw (← c.deref.ensures.value) c.in_default.ensures.none))
