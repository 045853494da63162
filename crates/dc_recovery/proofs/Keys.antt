-- Keys and fences.
use Rattle.std.proofs.Common.{◌≡◌, false, ap}
use Rattle.std.specs.Ordering.{is_lt}
use Rattle.std.proofs.lemmas.Cmp.{nat_list_cmp_total, tied_itself}
use Rattle.record_key.specs.Table.{Bytes}
use Rattle.record_key.specs.Order.{is_below}

pub not_below : (a : Bytes) → is_below a a ≡ false
not_below a = ap is_lt (tied_itself nat_list_cmp_total a)
