-- Who waits, waits for one number and one operation.
use Rattle.std.proofs.Common.{◌≡◌, ℕ}
use Rattle.record_key.specs.declared.op.Op.{Op}
use Rattle.history.specs.ListMachine.{Waiting}

pub same_number : (k j : ℕ) (o q : Op) → Waiting k o ≡ Waiting j q → k ≡ j
same_number k j o q e = cc

pub same_op : (k j : ℕ) (o q : Op) → Waiting k o ≡ Waiting j q → o ≡ q
same_op k j o q e = cc
