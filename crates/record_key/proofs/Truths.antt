-- Tests that hold, as truths.
use Rattle.std.proofs.Common.{◌≡◌, Bool, true, false, refl, sym, subst}
use Rattle.std.specs.Prelude.{◌&&◌, T}
use Rattle.std.specs.Ordering.{is_lt}
use Rattle.std.specs.declared.cmp.Ordering.{Ordering}
use Rattle.std.specs.declared.cmp.Ordering.TheVariants.{Less, Equal, Greater}

pub as_T : (b : Bool) → b ≡ true → T b
as_T b e = subst T (sym e) tt

pub from_T : (b : Bool) → T b → b ≡ true
from_T true h = refl
from_T false h = absurd h

pub and_first : (a b : Bool) → T (a && b) → T a
and_first true b h = tt
and_first false b h = h

pub and_second : (a b : Bool) → T (a && b) → T b
and_second true b h = h
and_second false b h = absurd h

pub both_T : (a b : Bool) → T a → T b → T (a && b)
both_T true b x y = y
both_T false b x y = x

pub is_lt-Less : (o : Ordering) → T (is_lt o) → o ≡ Less
is_lt-Less Less h = refl
is_lt-Less Equal h = absurd h
is_lt-Less Greater h = absurd h
