use Rattle.std.proofs.Common.{◌≡◌, ◌∙◌, length, vec_len, arith}
use Rattle.std.proofs.lemmas.Grind.{common_steps}
use Rattle.node_sides.specs.node_laws.specs.Rounds.{Performed, Stopped, events_of}
use Rattle.node_sides.specs.node_laws.proofs.Settles.RoundsLeft.{rounds_bound}
use Rattle.node_world.proofs.BringingUp.{at_rest, eased_left, none_yet, one_eased, performed_by, refused, stopped, stopped_by, telling_left}
use Rattle.node_world.proofs.bringing_up.bring_up.Goals as goal

pub loop-round-init : goal.loop-round-init
loop-round-init g c = record {
  far = none_yet c.args.world.now c.args.told.now.items;
  kept = c.kept.ensures.kept;
}

pub returns-in_err-played : goal.returns-in_err-played
returns-in_err-played g c =
    let now = c.loop-round.world in
    let new = c.play-played.new.world in
    let after = c.loop-round.told.items in
    let r = c.in-Some.round in
    let why = c.in_err-played.field-0.0 in
    let left : Stopped now (events_of now r) after c.play-played.new.out.items why new =
    stopped_by now new (events_of now r) after c.play-played.new.out.items c.play-played.result why c.play-played.ensures
    c.in_err-played.was in
    let counted : vec_len c.loop-round.told ≡ length after = grind (arith, common_steps) in
    refused c.args.world.now new c.args.told.now.items c.keep_telling.new.outs.items why c.from_residual.result
    (stopped c.args.world.now now new c.args.told.now.items after c.keep_telling.new.outs.items r left.outs why
    c.loop-round.invariant.far c.loop-round.invariant.kept c.in-Some.ensures left.stops
    (telling_left after c.play-played.new.out.items c.keep_telling.new.outs.items left.outs c.len-before.result
    (c.len-before.ensures ∙ counted) left.appended c.keep_telling.ensures)
    (rounds_bound c.args.world.now c.kept.ensures.kept.tc))
    c.from_residual.ensures.1

pub loop-round-smaller : goal.loop-round-smaller
loop-round-smaller g c =
    let now = c.loop-round.world in
    let r = c.in-Some.round in
    let done : Performed now (events_of now r) c.loop-round.told.items c.play-played.new.out.items c.play-played.new.world =
    performed_by now c.play-played.new.world (events_of now r) c.loop-round.told.items c.play-played.new.out.items
    c.play-played.result c.play-played.ensures c.in_ok-played.was in
    eased_left now c.play-played.new.world c.ease.new.world r done.outs c.loop-round.invariant.kept c.in-Some.ensures
    done.steps c.ease.ensures

pub loop-round-preserved : goal.loop-round-preserved
loop-round-preserved g c =
    let now = c.loop-round.world in
    let after = c.loop-round.told.items in
    let r = c.in-Some.round in
    let done : Performed now (events_of now r) after c.play-played.new.out.items c.play-played.new.world =
    performed_by now c.play-played.new.world (events_of now r) after c.play-played.new.out.items c.play-played.result
    c.play-played.ensures c.in_ok-played.was in
    let counted : vec_len c.loop-round.told ≡ length after = grind (arith, common_steps) in
    record {
      far = one_eased c.args.world.now now c.play-played.new.world c.ease.new.world c.args.told.now.items after
          c.keep_telling.new.outs.items r done.outs c.loop-round.invariant.far c.loop-round.invariant.kept
          c.in-Some.ensures done.steps
          (telling_left after c.play-played.new.out.items c.keep_telling.new.outs.items done.outs c.len-before.result
          (c.len-before.ensures ∙ counted) done.appended c.keep_telling.ensures)
          c.ease.ensures;
      kept = c.kept-in-Some.ensures.kept;
    }

pub returns : goal.returns
returns g c =
    at_rest c.args.world.now c.loop-round.world c.args.told.now.items c.loop-round.told.items
    c.loop-round.invariant.far c.in_default.ensures (rounds_bound c.args.world.now c.kept.ensures.kept.tc)
