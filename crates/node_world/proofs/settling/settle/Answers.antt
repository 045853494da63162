use Rattle.std.proofs.Common.{◌≡◌, ℕ, List, length, Bool, true, false, Option, Some, None, Result, Ok, Err, sym, ap, subst, arith, true≢false, eqb-true}
use Rattle.std.specs.Prelude.{◌==◌}
use Rattle.std.specs.Option.{option_eq}
use Rattle.std.specs.Result.{IsErrAnd}
use Rattle.record_key.specs.declared.refusal.Refusal.{Refusal}
use Rattle.node_sides.specs.node_laws.specs.declared.event.Out.{Out}
use Rattle.node_sides.specs.node_laws.specs.Node.{NodeView}
use Rattle.node_sides.specs.node_laws.specs.Rounds.{IsNextRound, Settles}
use Rattle.node_sides.specs.node_laws.proofs.Settles.RoundsLeft.{rounds_bound}
use Rattle.node_sides.specs.node_laws.proofs.Settles.Falls.{falls, some_left}
use Rattle.node_sides.specs.node_laws.proofs.Settles.Playing.{none_yet, one_more, all_played, allowed, broken}
use Rattle.node_sides.specs.node_laws.proofs.Settles.Telling.{tells_rounds}
use Rattle.node_world.proofs.settling.settle.Goals as goal

pub loop-round-init : goal.loop-round-init
loop-round-init g c = record {
  far = none_yet c.args.world.now c.args.most c.args.out.now.items;
  kept = c.kept.ensures.kept;
}

-- whether a round may still be played
spent : (left : Option ℕ) → true ≡ option_eq (λ a b. a == b) left (Some 0) → left ≡ Some 0
spent None h = absurd (cc)
spent (Some n) h = ap Some (eqb-true n 0 (sym h))

unspent : (left : Option ℕ) → false ≡ option_eq (λ a b. a == b) left (Some 0) → left ≡ Some 0 → ⊥
unspent left h e = let P : Option ℕ → Type 0 = λ x. false ≡ option_eq (λ a b. a == b) x (Some 0) in
    true≢false (sym (subst P e h))

pub returns-then-eq : goal.returns-then-eq
returns-then-eq g c =
    let far = c.loop-round.invariant.far in
    let next : IsNextRound c.loop-round.world c.in-Some.round = c.in-Some.ensures in (
      far.played,
      all_played c.args.most c.loop-round.left _ far.left_is (spent c.loop-round.left c.if-eq.ensures),
      omega (
        arith,
        far.count,
        some_left c.loop-round.world c.in-Some.round c.loop-round.invariant.kept next,
        rounds_bound c.args.world.now c.kept.ensures.kept.tc,
      ),
      (c.in-Some.round, next),
      tells_rounds c.args.world.now c.loop-round.world far.played.rounds far.played.outs far.played.played,
    )

-- the refusal of a round is handed on
refused : (old new : NodeView) (most : Option ℕ) (before after : List Out) (r : Refusal) (result : Result Bool Refusal)
    → Settles old most before after (Err r) new → IsErrAnd result (λ q. q ≡ r)
    → Settles old most before after result new
refused old new most before after r (Ok b) h same = absurd same
refused old new most before after r (Err q) h same = let P : Refusal → Type 0 =
    λ x. Settles old most before after (Err x) new in subst P (sym same) h

pub returns-in_err-play : goal.returns-in_err-play
returns-in_err-play g c =
    refused c.args.world.now c.play.new.world c.args.most c.args.out.now.items c.play.new.out.items
    c.in_err-play.field-0.0 c.from_residual.result
    (broken c.args.world.now c.loop-round.world c.play.new.world c.args.most c.loop-round.left c.args.out.now.items
    c.loop-round.out.items c.play.new.out.items c.in-Some.round c.in_err-play.field-0.0
    c.loop-round.invariant.far (unspent c.loop-round.left c.if-eq.ensures) c.loop-round.invariant.kept c.in-Some.ensures
    c.in_err-play.ensures
    (rounds_bound c.args.world.now c.kept.ensures.kept.tc))
    c.from_residual.ensures.1

pub loop-round-smaller : goal.loop-round-smaller
loop-round-smaller g c =
    let done = c.in_ok-play.ensures in
    falls c.loop-round.world c.play.new.world c.in-Some.round done.outs c.loop-round.invariant.kept c.in-Some.ensures
    done.steps

pub loop-round-preserved : goal.loop-round-preserved
loop-round-preserved g c = record {
  far = rw (c.less_one-left.ensures)
      (one_more c.args.world.now c.loop-round.world c.play.new.world c.args.most c.loop-round.left c.args.out.now.items
      c.loop-round.out.items c.play.new.out.items c.in-Some.round
      c.loop-round.invariant.far (unspent c.loop-round.left c.if-eq.ensures) c.in-Some.ensures c.in_ok-play.ensures
      (falls c.loop-round.world c.play.new.world c.in-Some.round c.in_ok-play.ensures.outs c.loop-round.invariant.kept
      c.in-Some.ensures c.in_ok-play.ensures.steps));
  kept = c.kept-in-Some.ensures.kept;
}

pub returns : goal.returns
returns g c =
    let far = c.loop-round.invariant.far in (
      far.played,
      allowed c.args.most c.loop-round.left (length far.played.rounds) far.left_is,
      omega (arith, far.count, rounds_bound c.args.world.now c.kept.ensures.kept.tc),
      c.in_default.ensures,
      tells_rounds c.args.world.now c.loop-round.world far.played.rounds far.played.outs far.played.played,
    )
