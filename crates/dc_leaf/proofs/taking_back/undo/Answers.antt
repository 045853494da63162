use Rattle.std.proofs.Common.{sym, ◌∙◌, arith}
use Rattle.record_key.specs.Rows.{IsPlaceOf}
use Rattle.record_key.specs.Table.{key_of}
use Rattle.dc_leaf.proofs.Undoing.{undone_rows}
use Rattle.dc_leaf.proofs.taking_back.undo.Goals as goal

pub returns-clause-undone : goal.returns-clause-undone
returns-clause-undone c =
    let place : IsPlaceOf (key_of c.in-Some.op) c.args.rows.now.rows c.place_of-place.result =
    rw (c.lent.ensures, c.make_room.ensures.same, c.key.ensures, c.lent-op.ensures) at c.place_of-place.ensures.place in
    undone_rows c.args.end c.args.rows.now.rows c.write_at.new.rows.rows c.args.entry.now c.in-Some.op
    c.place_of-place.result c.requires (omega (arith, c.if-entry-end.false)) (sym c.inverse_on.ensures ∙ c.in-Some.is)
    place (rw (c.lent-op.ensures, c.make_room.ensures.same) at c.write_at.ensures)
