use Rattle.std.proofs.Common.{◌≡◌, drop}
use Rattle.tc_core.specs.Changes.{let_go}
use Rattle.tc_core.proofs.forcing.let_go.Given as goal

-- those that are left let go of the rest
abbrev pub invariant-loop-txn : goal.invariant-loop-txn
invariant-loop-txn l = let_go (drop l.txn-index l.txns) l.locks ≡ let_go l.txns l.initial.locks
