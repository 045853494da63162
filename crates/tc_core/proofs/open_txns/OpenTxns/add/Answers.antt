use Rattle.std.proofs.Common.{[], ◌∷◌, length, sym, ap, ◌∙◌, arith}
use Rattle.std.proofs.lemmas.List.{length-append}
use Rattle.tc_core.proofs.Slots.{Holds, wider}
use Rattle.tc_core.proofs.Adding.{adds}
use Rattle.tc_core.proofs.open_txns.OpenTxns.add.Goals as goal

pub invariant_of-self : goal.invariant_of-self
invariant_of-self c =
    wider c.self.inside.txns c.reserve.new.self c.self.inside.slots.items c.reserve.ensures.rest_kept c.self.invariant

pub invariant_of-self-in_err-push : goal.invariant_of-self-in_err-push
invariant_of-self-in_err-push c =
    rw c.in_err-push.ensures.items
    (wider c.self.inside.txns c.reserve.new.self c.self.inside.slots.items c.reserve.ensures.rest_kept c.self.invariant)

more : (c : goal.After-insert_reserved)
    → Holds c.insert_reserved.new.self c.push.new.self.items (c.args.opened ∷ c.args.self.now)
more c =
    let old = c.self.inside in
    rw (c.in_ok-push.ensures.items, c.vacant_key.ensures.value ∙ sym c.insert_reserved.ensures.key)
    (adds c.args.opened c.insert_reserved.result old.txns c.reserve.new.self c.insert_reserved.new.self old.slots.items
    c.args.self.now c.self.invariant.each c.self.view_is c.reserve.ensures.rest_kept c.insert_reserved.ensures.was_vacant
    c.insert_reserved.ensures.updates c.requires)

pub invariant_of-self-2 : goal.invariant_of-self-2
invariant_of-self-2 c = record {
  each = (more c).are;
  as_many =
      let slots = c.self.inside.slots.items in
      let was = wider c.self.inside.txns c.reserve.new.self slots c.reserve.ensures.rest_kept c.self.invariant in
      omega (
        arith,
        c.insert_reserved.ensures.len,
        was.as_many,
        ap length c.in_ok-push.ensures.items,
        length-append slots ((c.args.opened.txn, c.vacant_key.result) ∷ []),
      );
}

pub returns-clause-added : goal.returns-clause-added
returns-clause-added c = (more c).view
