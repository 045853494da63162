use Rattle.std.proofs.Common.{◌∷◌, ap, sym, refl}
use Rattle.hex.specs.Hex.{encode_lower}
use Rattle.shell_scripts.proofs.Printing.{stops_first, prints_both}
use Rattle.shell_scripts.proofs.pieces.put_digits.Goals as goal

pub returns-in_err-put : goal.returns-in_err-put
returns-in_err-put g c =
    stops_first _ _ _ (encode_lower c.args.bytes.now) _ c.from_residual.result c.from_residual.ensures.0
    c.in_err-put.ensures refl

pub returns : goal.returns
returns g c =
    prints_both _ _ _ _ _ _ c.put-in-Ok.result c.in_ok-put.ensures c.put-in-Ok.ensures
    (ap (λ v. 35 ∷ v) (sym c.in-Ok.ensures.written))
