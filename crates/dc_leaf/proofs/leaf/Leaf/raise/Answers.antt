use Rattle.std.specs.Prelude.{IsTrue}
use Rattle.record_key.specs.Order.{is_between}
use Rattle.record_key.specs.declared.entry.Entry.{Entry}
use Rattle.dc_leaf.proofs.Raising.{all_raised}
use Rattle.dc_leaf.proofs.leaf.Leaf.raise.Goals as goal

pub invariant_of-self : goal.invariant_of-self
invariant_of-self c =
    rw (c.raise.ensures.raised) (
      c.self.invariant.0,
      (
        c.self.invariant.1.0,
        all_raised (λ (e : Entry). IsTrue (is_between c.self.inside.low_fence c.self.inside.high_fence e.key))
            c.self.inside.ab c.args.low c.self.invariant.1.1,
      ),
    )
