use Rattle.std.proofs.Common.{Some, refl}
use Rattle.std.specs.Prelude.{IsTrue}
use Rattle.record_key.specs.Order.{is_between}
use Rattle.record_key.specs.Rows.{Row}
use Rattle.record_key.specs.declared.entry.Entry.{Entry}
use Rattle.dc_ab_lsn.specs.Parting.{is_from}
use Rattle.dc_leaf.proofs.Halves.{all_kept, between_upper, retained}
use Rattle.dc_leaf.proofs.leaf.Leaf.upper.Goals as goal

pub invariant_of-result : goal.invariant_of-result
invariant_of-result c =
    let low = c.self.inside.low_fence in
    let high = c.self.inside.high_fence in
    let k = c.args.key.now in
    let rows = c.self.inside.rows.rows in
    rw (
      c.in_ok-add.ensures.added,
      c.new-rows.ensures,
      c.rows_from.ensures.rows,
      c.lent.ensures,
      c.in_ok-ab.ensures.upper,
      c.copied.ensures,
      c.copied_fence.ensures,
      c.as_ref.ensures.value,
    ) (
      (retained rows (is_from k) c.self.invariant.0).0,
      (
        all_kept (λ (row : Row). IsTrue (is_between low high row.0))
            (λ (row : Row). IsTrue (is_between (Some k) high row.0)) (λ (row : Row). is_from k row.0)
            (λ row inside from. between_upper low high k row.0 inside from) rows c.self.invariant.1.0,
        all_kept (λ (e : Entry). IsTrue (is_between low high e.key))
            (λ (e : Entry). IsTrue (is_between (Some k) high e.key)) (λ (e : Entry). is_from k e.key)
            (λ e inside from. between_upper low high k e.key inside from) c.self.inside.ab.entries c.self.invariant.1.1,
      ),
    )

pub returns-clause-upper : goal.returns-clause-upper
returns-clause-upper c =
    rw (
      ← c.self.view_is,
      c.in_ok-add.ensures.added,
      c.new-rows.ensures,
      c.rows_from.ensures.rows,
      c.lent.ensures,
      c.in_ok-ab.ensures.upper,
      c.copied.ensures,
      c.copied_fence.ensures,
      c.as_ref.ensures.value,
      (retained c.self.inside.rows.rows (is_from c.args.key.now) c.self.invariant.0).1,
    ) refl
