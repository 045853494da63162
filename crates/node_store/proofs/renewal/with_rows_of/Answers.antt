use Rattle.std.proofs.Common.{◌≡◌, sym, subst}
use Rattle.std.specs.FinMap.{entries}
use Rattle.record_key.specs.Rows.{AreInOrder}
use Rattle.record_key.specs.Table.{Table}
use Rattle.record_key.proofs.Rows.{own_rows}
use Rattle.dc_tree.specs.Leaves.{rows_of}
use Rattle.node_world.specs.dc_core.specs.DcView.{leaves}
use Rattle.node_store.proofs.renewal.with_rows_of.Goals as goal

pub rewrite-requires-clause-sorted : goal.rewrite-requires-clause-sorted
rewrite-requires-clause-sorted g c =
    let table : Table = rows_of (leaves c.args.old.now.dc) in
    let lent = c.deref.ensures.value in
    let copied = c.in-Ok.ensures.rows in
    let same : c.deref.result.now ≡ entries table = cc in
    subst AreInOrder (sym same) (own_rows table)
