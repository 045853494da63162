use Rattle.std.proofs.Common.{refl, sym, subst, arith}
use Rattle.codec.specs.Fields.{number}
use Rattle.codec.specs.Writing.{HasRoom, Puts}
use Rattle.codec.proofs.Starts.{long_start_is}
use Rattle.codec.proofs.writing.put_long_start.Goals as goal

pub put_bytes-requires : goal.put_bytes-requires
unfolding number
put_bytes-requires c =
    let first = c.write_u64.auto.buf in
    let second = c.write_u64-2.auto.buf in
    let third = c.write_u64-3.auto.buf in
    subst (HasRoom c.args.out.now)
    (sym (long_start_is 16 c.args.length c.args.kind c.args.n c.write_u64.new.buf c.write_u64-2.new.buf _ _ (omega (arith, first))
    c.write_u64.ensures (omega (arith, second)) c.write_u64-2.ensures
    8 c.args.m c.write_u64-3.new.buf _ refl (omega (arith, third)) c.write_u64-3.ensures refl)) c.requires

pub returns : goal.returns
unfolding number
returns c =
    let first = c.write_u64.auto.buf in
    let second = c.write_u64-2.auto.buf in
    let third = c.write_u64-3.auto.buf in
    subst (Puts c.args.out.now c.put_bytes.new.out)
    (long_start_is 16 c.args.length c.args.kind c.args.n c.write_u64.new.buf c.write_u64-2.new.buf _ _ (omega (arith, first))
    c.write_u64.ensures (omega (arith, second)) c.write_u64-2.ensures
    8 c.args.m c.write_u64-3.new.buf _ refl (omega (arith, third)) c.write_u64-3.ensures refl) c.put_bytes.ensures
