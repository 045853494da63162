use Rattle.tc_locks.specs.Meant.{meant}
use Rattle.tc_core.proofs.Untaken.{holds_some, untaken}
use Rattle.tc_core.proofs.locking.take.Goals as goal

pub untake-requires : goal.untake-requires
untake-requires c = holds_some c.args.locks.now c.take.new.self c.args.txn (meant c.args.mode c.args.span.now)
    c.requires.table c.in-Ok.ensures.taken

pub returns-in-Ok-clause-unchanged : goal.returns-in-Ok-clause-unchanged
returns-in-Ok-clause-unchanged c =
    untaken c.args.locks.now c.take.new.self c.args.txn (meant c.args.mode c.args.span.now) c.requires.table
    c.in-Ok.ensures.taken
    c.untake.new.self c.untake.ensures
