use Rattle.std.proofs.Common.{rules}
use Rattle.std.specs.Ordering.{nat_cmp}
use Rattle.std.proofs.lemmas.Fn.{always_returns_same}
use Rattle.record_key.specs.declared.slot.Slot.{Slot}
use Rattle.record_key.specs.Packed.{entry_in}
use Rattle.record_key.proofs.Search.{entries_searched}
use Rattle.record_key.proofs.entries.Entries.place_of.Goals as goal

some_slot : Slot
some_slot = record { number = 0; place = 0 }

pub returns-clause-place : goal.returns-clause-place
returns-clause-place c =
    rw (← c.self.view_is)
    (entries_searched (entry_in c.self.inside.bytes.items) c.self.inside.slots.items 0
    (rw (← c.self.view_is) at c.requires)
    c.args.number some_slot c.binary_search_by.result (rw c.as_slice.ensures at c.binary_search_by.ensures.bound)
    (rw c.as_slice.ensures at (c.binary_search_by.ensures.position (λ (s : Slot). nat_cmp s.number c.args.number)
    (always_returns_same _ _ _ (λ a r g called. search rules)))))
