use Rattle.std.proofs.Common.{◌≡◌, ◌∙◌, Some, sym}
use Rattle.record_key.specs.Table.{key_of}
use Rattle.tc_log.specs.Replay.{holder_in}
use Rattle.tc_log.proofs.Puts.{puts_key}
use Rattle.tc_log.proofs.replay.Index.hold.Goals as goal

pub returns-then-is_add-clause-adders : goal.returns-then-is_add-clause-adders
returns-then-is_add-clause-adders c =
    rw (sym c.is_add.ensures ∙ c.if-is_add.true, sym c.key.ensures) c.add.ensures.puts

pub returns-in_ok-insert-clause-holders : goal.returns-in_ok-insert-clause-holders
returns-in_ok-insert-clause-holders c =
    let key : c.copied.result ≡ key_of c.args.op.now = c.copied.ensures ∙ c.key-else-is_add-2.ensures in
    rw (sym c.is_add.ensures ∙ c.if-is_add.false, sym key)
    (puts_key (holder_in c.args.self.now) _ c.copied.result (Some c.args.txn)
    c.in_ok-insert.ensures.updates.1 c.in_ok-insert.ensures.updates.2)
