use Rattle.std.proofs.Common.{◌≡◌, ◌∙◌, ℕ, ◌-◌, ◌<◌, ◌≤◌, List, inl, inr, sym, arith}
use Rattle.codec.specs.FrameIndex.{place_at, places_of}
use Rattle.codec.proofs.Indexed.{place_of, length-places_of}
use Rattle.tc_log.specs.Spelled.{IsPlaceOf}
use Rattle.tc_log.proofs.frames.place_of.Goals as goal
use Rattle.tc_log.proofs.frames.place_of.Goals.{then-number-eq0-via-then-number-eq0, then-number-eq0-via-else-number-eq0+then-len-number}

is_place : (bytes : List ℕ) (count n place : ℕ) → 0 < n → n ≤ count → place ≡ place_at bytes (n - 1)
    → IsPlaceOf (places_of bytes count) n place
is_place bytes count n place some within at = record {
  positive = some;
  bounded = omega (arith, within, length-places_of bytes count);
  at = at ∙ sym (place_of bytes count (n - 1) place (omega (arith, some, within)));
}

pub returns-then-number-eq0-clause-none : goal.returns-then-number-eq0-clause-none
returns-then-number-eq0-clause-none c =
    elim c.then-number-eq0.branch [
      | then-number-eq0-via-then-number-eq0 w ↦ inl w.if-number-eq0.true
      | then-number-eq0-via-else-number-eq0+then-len-number w ↦
          inr (omega (
            arith,
            w.if-len-number.true,
            w.len.ensures,
            length-places_of c.args.bytes.now c.args.index.now.count,
          ))
    ]

pub returns-clause-some : goal.returns-clause-some
returns-clause-some c =
    is_place c.args.bytes.now c.args.index.now.count c.args.number c.place.result
    (omega (arith, c.if-number-eq0.false)) (omega (arith, c.if-len-number.false, c.len.ensures)) c.place.ensures
