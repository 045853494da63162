use Rattle.tc_locks.proofs.Setting.{released}
use Rattle.tc_locks.proofs.held.Held.drop_all.Goals as goal

pub returns-clause-released : goal.returns-clause-released
returns-clause-released c =
    released c.args.self.now (record { by_txn = c.remove.new.self }) c.args.txn c.remove.ensures.entries
