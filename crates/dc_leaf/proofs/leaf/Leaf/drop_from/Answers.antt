use Rattle.std.proofs.Common.{Some, refl}
use Rattle.std.specs.Prelude.{IsTrue}
use Rattle.record_key.specs.Order.{is_between}
use Rattle.record_key.specs.Rows.{Row}
use Rattle.record_key.specs.declared.entry.Entry.{Entry}
use Rattle.dc_ab_lsn.specs.Parting.{is_under}
use Rattle.dc_leaf.proofs.Halves.{all_kept, between_lower, retained}
use Rattle.dc_leaf.proofs.leaf.Leaf.drop_from.Goals as goal

pub invariant_of-self : goal.invariant_of-self
invariant_of-self c =
    let low = c.self.inside.low_fence in
    let high = c.self.inside.high_fence in
    let k = c.args.key.now in
    let rows = c.self.inside.rows.rows in
    rw (c.drop_rows_from.ensures, c.drop_from.ensures.lower, c.copied.ensures) (
      (retained rows (is_under k) c.self.invariant.0).0,
      (
        all_kept (λ (row : Row). IsTrue (is_between low high row.0))
            (λ (row : Row). IsTrue (is_between low (Some k) row.0)) (λ (row : Row). is_under k row.0)
            (λ row inside under. between_lower low high k row.0 inside under) rows c.self.invariant.1.0,
        all_kept (λ (e : Entry). IsTrue (is_between low high e.key))
            (λ (e : Entry). IsTrue (is_between low (Some k) e.key)) (λ (e : Entry). is_under k e.key)
            (λ e inside under. between_lower low high k e.key inside under) c.self.inside.ab.entries
            c.self.invariant.1.1,
      ),
    )

pub returns : goal.returns
returns c =
    rw (
      ← c.self.view_is,
      c.drop_rows_from.ensures,
      c.drop_from.ensures.lower,
      c.copied.ensures,
      (retained c.self.inside.rows.rows (is_under c.args.key.now) c.self.invariant.0).1,
    ) refl
