use Rattle.std.proofs.Common.{sym, ◌∙◌}
use Rattle.tc_core.proofs.InSlots.{slot_at, found_at, not_found}
use Rattle.tc_core.proofs.open_txns.OpenTxns.find.Goals as goal

pub returns-in_err-place : goal.returns-in_err-place
returns-in_err-place c =
    rw c.from_residual.ensures
    (sym (not_found c.self.inside.txns c.args.txn c.self.inside.slots.items c.args.self.now c.self.invariant.each c.self.view_is
    (rw (← c.deref.ensures.value) c.in_err-place.ensures.none)))

pub returns : goal.returns
returns c =
    let slots = c.self.inside.slots.items in
    let slot = slot_at slots c.in_ok-place.place c.args.txn (rw (← c.deref.ensures.value) c.in_ok-place.ensures.found)
    c.index.result.now c.index.ensures in
    c.get.ensures
    ∙ sym (found_at c.self.inside.txns c.args.txn slots c.args.self.now c.self.invariant.each c.self.view_is c.in_ok-place.place
    c.index.result.now.1 slot)
