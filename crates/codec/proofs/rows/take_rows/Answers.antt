use Rattle.std.proofs.Common.{arith}
use Rattle.codec.proofs.PackedRows.{none_found, within, packed_there, found}
use Rattle.codec.proofs.rows.take_rows.Goals as goal

pub returns-in_default-skip_rows : goal.returns-in_default-skip_rows
returns-in_default-skip_rows c =
    none_found c.args.bytes.now (λ i. omega (arith, c.type_inv.bytes i)) c.in-Some.count c.in-Some.rest.now
    c.in-Some.ensures c.in_default-skip_rows.ensures

pub slice_bounds-copy_of-count : goal.slice_bounds-copy_of-count
slice_bounds-copy_of-count c =
    within c.args.bytes.now (λ i. omega (arith, c.type_inv.bytes i)) c.in-Some.count c.in-Some.rest.now
    c.in-Some.ensures c.in-Some-skip_rows.after.now c.in-Some-skip_rows.ensures

pub copy_of-requires : goal.copy_of-requires
copy_of-requires c =
    packed_there c.args.bytes.now (λ i. omega (arith, c.type_inv.bytes i)) c.in-Some.count c.in-Some.rest.now
    c.in-Some.ensures c.in-Some-skip_rows.after.now c.in-Some-skip_rows.ensures

pub returns : goal.returns
returns c =
    found c.args.bytes.now (λ i. omega (arith, c.type_inv.bytes i)) c.in-Some.count c.in-Some.rest.now
    c.in-Some.ensures c.in-Some-skip_rows.after.now c.in-Some-skip_rows.ensures c.in_ok-rows.rows c.in_ok-rows.ensures
