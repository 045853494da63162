use Rattle.std.specs.Prelude.{not, nat_lt, IsTrue}
use Rattle.record_key.specs.declared.entry.Entry.{Entry}
use Rattle.record_key.specs.Order.{is_between}
use Rattle.record_key.specs.Rows.{table_of}
use Rattle.dc_leaf.specs.TakingBack.{rows_back, AreRowsOf}
use Rattle.dc_leaf.proofs.Raising.{all_filtered}
use Rattle.dc_leaf.proofs.leaf.Leaf.taken_back.Goals as goal

pub invariant_of-result : goal.invariant_of-result
invariant_of-result c =
    let rows = c.self.inside.rows.rows in
    let entries = c.self.inside.ab.entries in
    let low = c.self.inside.low_fence in
    let high = c.self.inside.high_fence in
    let back : AreRowsOf (rows_back c.args.end entries (table_of rows)) entries rows c.undo_above.new.rows.rows =
    rw (c.in_ok-add.ensures.added, c.new-rows.ensures, c.lent.ensures, c.entries.ensures.entries)
    at c.in_ok-undo_above.ensures.undone in
    rw (
      c.copied_fence.ensures,
      c.as_ref.ensures.value,
      c.copied_fence-2.ensures,
      c.as_ref-2.ensures.value,
      c.pop_above.ensures.popped,
      c.in_ok-ab.ensures.copied,
    ) (
      back.ordered,
      (
        back.between low high c.self.invariant.1.0 c.self.invariant.1.1,
        all_filtered (λ (e : Entry). IsTrue (is_between low high e.key))
            (λ (e : Entry). not (nat_lt c.args.end e.number))
            entries c.self.invariant.1.1,
      ),
    )
