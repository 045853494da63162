use Rattle.std.proofs.Common.{◌≡◌, sym, true≢false, arith}
use Rattle.std.proofs.lemmas.Grind.{common_steps}
use Rattle.slab.specs.Slab.{get}
use Rattle.tc_core.specs.OpenTxns.{find, without}
use Rattle.tc_core.proofs.Slots.{Holds}
use Rattle.tc_core.proofs.InSlots.{slot_at, found_at, not_found}
use Rattle.tc_core.proofs.Changing.{removed}
use Rattle.tc_core.proofs.open_txns.OpenTxns.remove.Goals as goal

-- its slot holds it
pub vacate-requires : goal.vacate-requires
vacate-requires c =
    let old = c.self.inside in
    let slot = slot_at old.slots.items c.in-Some.place c.args.txn (rw (← c.deref.ensures.value) c.in-Some.ensures.found)
    c.remove-slot.result c.remove-slot.ensures.value in
    let there : get old.txns c.remove-slot.result.1 ≡ find c.args.txn c.args.self.now =
    sym (found_at old.txns c.args.txn old.slots.items c.args.self.now c.self.invariant.each c.self.view_is c.in-Some.place
    c.remove-slot.result.1 slot) in
    rw there c.requires

left : (c : goal.After-vacate)
    → Holds c.vacate.new.txns c.remove-slot.new.self.items (without c.args.txn c.args.self.now)
left c =
    let old = c.self.inside in
    let slot = slot_at old.slots.items c.in-Some.place c.args.txn (rw (← c.deref.ensures.value) c.in-Some.ensures.found)
    c.remove-slot.result c.remove-slot.ensures.value in
    rw (c.remove-slot.ensures.items, ← c.self.view_is)
    (removed old.txns c.vacate.new.txns c.args.txn c.remove-slot.result.1 c.vacate.ensures.others
    old.slots.items c.in-Some.place c.self.invariant.each slot)

pub invariant_of-self : goal.invariant_of-self
invariant_of-self c = record {
  each = (left c).are;
  as_many = grind (arith, common_steps, c.vacate.ensures.one_less, c.self.invariant.as_many, c.remove-slot.ensures.len);
}

pub returns-in-Some : goal.returns-in-Some
returns-in-Some c = (left c).view

pub returns-in_default : goal.returns-in_default
returns-in_default c =
    let none = not_found c.self.inside.txns c.args.txn c.self.inside.slots.items c.args.self.now c.self.invariant.each
    c.self.view_is (rw (← c.deref.ensures.value) c.in_default.ensures.none) in
    absurd (true≢false (sym (rw none at c.requires)))
