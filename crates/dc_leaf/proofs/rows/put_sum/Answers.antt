use Rattle.std.proofs.Common.{◌≡◌, length, sym, ap, ◌∙◌, arith, length-append, ◌∷◌}
use Rattle.dc_leaf.proofs.Sums.{sum_length}
use Rattle.dc_leaf.proofs.rows.put_sum.Goals as goal

pub set-requires-clause-room : goal.set-requires-clause-room
set-requires-clause-room c =
    let sum = c.lent-in-Some.result in
    let eight : length sum ≡ 8 =
    ap length c.lent-in-Some.ensures ∙ sum_length _ _ _ (sym c.plus.ensures ∙ c.in-Some.is) in
    omega (arith, length-append c.args.key.now (length sum ∷ sum), eight, c.requires.room)
