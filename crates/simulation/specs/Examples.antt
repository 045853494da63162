-- Two logs, with a Commit and without, and what each can stand for after a crash.
use Rattle.std.specs.Prelude.{◌≡◌, false, List, [], ◌∷◌}
use Rattle.record_key.specs.declared.op.Op.{Op}
use Rattle.record_key.specs.declared.op.Answer.{Answer}
use Rattle.history.specs.declared.record.Record.{Record}
use Rattle.history.specs.declared.record.Record.TheVariants as is
use Rattle.history.specs.ListMachine.{Machine, Losing, Committed, HasStatus}
use Rattle.simulation.specs.View.{standing, opened, StandsFor}

abbrev pub answered_once : Op → Answer → List Record
answered_once o a = is.Answer 2 a ∷ is.Op 1 0 o ∷ is.Begin ∷ []

-- without a Commit nothing stands, and the transaction loses
abbrev pub UncommittedIsLost : Type 0
UncommittedIsLost = (o : Op) (a : Answer) (m : Machine) → StandsFor (opened (answered_once o a)) m → (standing m.h ≡ [])
    × HasStatus m 1 Losing

-- with it the entry stands, and the transaction is committed
abbrev pub CommittedStays : Type 0
CommittedStays =
    (o : Op) (a : Answer) (m : Machine) → StandsFor (opened (is.Commit 1 ∷ answered_once o a)) m
    → (standing m.h ≡ record { number = 2; txn = 1; op = o; answer = a; crossed = false } ∷ [])
    × HasStatus m 1 Committed
