use Rattle.std.proofs.Common.{◌≤◌, length, arith}
use Rattle.codec.proofs.RowsLeft.{none_left}
use Rattle.codec.proofs.lent_rows.LentRows.value.Goals as goal

pub unreachable-requires-in-None : goal.unreachable-requires-in-None
unreachable-requires-in-None c =
    let few : length c.args.self.now ≤ c.args.at =
    none_left c.args.self.now c.from.result c.args.at c.from.ensures c.in-None.ensures.end in
    omega (arith, few, c.requires)
