use Rattle.std.proofs.Common.{◌≡◌, ℕ, None}
use Rattle.std.specs.Global.{Vec}
use Rattle.tc_locks.specs.declared.span.Lock.{Lock}
use Rattle.tc_locks.specs.Meant.{blocks}
use Rattle.tc_locks.specs.Least.{least_of}
use Rattle.tc_locks.proofs.held.Held.least_holder.Given as goal

abbrev pub invariant-loop-holder : goal.invariant-loop-holder
invariant-loop-holder l =
    least_of (λ (e : ℕ × Vec Lock). e.0) (blocks l.txn l.lock) l.least l.holder-iterator
    ≡ least_of (λ (e : ℕ × Vec Lock). e.0) (blocks l.txn l.lock) None l.self.by_txn.entries
