use Rattle.std.proofs.Common.{ap, ◌∙◌, sym}
use Rattle.record_key.specs.Table.{value_after}
use Rattle.log_replay.specs.Kept.{value_held}
use Rattle.log_replay.proofs.Applied.{applied}
use Rattle.log_replay.proofs.values.apply.Goals as goal

pub returns-clause-applied : goal.returns-clause-applied
returns-clause-applied c =
    applied c.args.values.now c.put.new.values c.args.op.now c.key.result.now c.value_after.result c.key.ensures
    (c.value_after.ensures ∙ ap (value_after c.args.op.now)
    (c.requires.old ∙ ap (value_held c.args.values.now) (sym c.key.ensures)))
    c.in_ok-put.ensures.put
