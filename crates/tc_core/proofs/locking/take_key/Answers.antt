use Rattle.tc_locks.specs.declared.span.Span.TheVariants.{Key}
use Rattle.tc_locks.specs.Meant.{meant}
use Rattle.tc_core.proofs.Untaken.{holds_some, untaken}
use Rattle.tc_core.proofs.locking.take_key.Goals as goal

pub untake-requires : goal.untake-requires
untake-requires c = holds_some c.args.locks.now c.take_key.new.self c.args.txn (meant c.args.mode (Key c.args.key.now))
    c.requires c.in-Ok.ensures.taken

pub returns-in-Ok-clause-unchanged : goal.returns-in-Ok-clause-unchanged
returns-in-Ok-clause-unchanged c =
    untaken c.args.locks.now c.take_key.new.self c.args.txn (meant c.args.mode (Key c.args.key.now)) c.requires
    c.in-Ok.ensures.taken
    c.untake.new.self c.untake.ensures
