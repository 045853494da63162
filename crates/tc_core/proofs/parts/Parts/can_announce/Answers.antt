use Rattle.std.proofs.Common.{◌≡◌, Bool, MatchBool, subst, arith, inr, refl}
use Rattle.tc_log.specs.Low.{IsGreatestLow}
use Rattle.tc_core.specs.Seen.{seen}
use Rattle.tc_core.proofs.parts.Parts.can_announce.Goals as goal

pub returns-then-low-greatest_low-clause-refused : goal.returns-then-low-greatest_low-clause-refused
returns-then-low-greatest_low-clause-refused g c =
    let w = seen c.args.self.now in
    let n = c.greatest_low.result in
    let P : Bool → Type 0 = λ b. MatchBool b (IsGreatestLow w.log w.stable n) (n ≡ 0) in
    let greatest = subst P c.in_ok-running.ensures.ok c.greatest_low.ensures in
    inr (
      c.in_ok-running.ensures.allowed,
      refl,
      λ may. omega (arith, greatest.greatest c.args.low may, c.if-low-greatest_low.true),
    )

pub returns-clause-allowed : goal.returns-clause-allowed
returns-clause-allowed g c =
    let w = seen c.args.self.now in
    let n = c.greatest_low.result in
    let P : Bool → Type 0 = λ b. MatchBool b (IsGreatestLow w.log w.stable n) (n ≡ 0) in
    let greatest = subst P c.in_ok-running.ensures.ok c.greatest_low.ensures in
    record {
      running = c.in_ok-running.ensures.allowed;
      allowed = record {
        within = omega (arith, greatest.is.within, c.if-low-greatest_low.false);
        answered = λ m o below asks. greatest.is.answered m o (omega (arith, below, c.if-low-greatest_low.false)) asks;
      };
    }
