use Rattle.std.proofs.Common.{rules, not, nat_lt}
use Rattle.record_key.specs.declared.entry.Entry.{Entry}
use Rattle.record_key.proofs.Packing.{dropped}
use Rattle.record_key.proofs.entries.Entries.drop_above.Goals as goal

pub invariant_of-self : goal.invariant_of-self
invariant_of-self c =
    (dropped c.self.inside.bytes.items (λ (e : Entry). not (nat_lt c.args.high e.number))
    _ _ (λ s b g t filled called. search rules)
    c.self.inside.slots.items c.retain.new.self.items c.self.invariant c.retain.ensures.filtered).0

pub returns : goal.returns
returns c = rw (← c.self.view_is, c.forget_bytes.ensures)
    ((dropped c.self.inside.bytes.items (λ (e : Entry). not (nat_lt c.args.high e.number))
    _ _ (λ s b g t filled called. search rules)
    c.self.inside.slots.items c.retain.new.self.items c.self.invariant c.retain.ensures.filtered).1)
