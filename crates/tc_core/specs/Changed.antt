-- What happens to an open transaction.
use Rattle.std.specs.Prelude.{ℕ, List, Option, Some, None}
use Rattle.tc_core.specs.declared.open_txn.OpenTxn.{OpenTxn}
use Rattle.tc_core.specs.declared.change.Change.{Change}
use Rattle.tc_core.specs.declared.change.Change.TheVariants as what
use Rattle.tc_core.specs.OpenTxns.{find, replace}
use Rattle.tc_core.specs.Changes.{answered_txn, told_txn, rolling_txn, back_txn}

-- what it is then
abbrev pub changed : Change → OpenTxn → OpenTxn
changed (what.Stepped number undo waiting) o = record o { last = number; undo = undo; waiting = waiting }
changed what.Answered o = answered_txn o
changed (what.Reads read) o = record o { reading = Some read }
changed what.Told o = told_txn o
changed (what.Saved saves) o = record o { saves = saves }
changed what.Rolls o = rolling_txn o
changed (what.GoesBack rollback saves) o = record o { rolling = Some rollback; saves = saves }
changed what.IsBack o = back_txn o

-- the open transactions then: nothing happens where none has this number
abbrev pub happens_to : Option OpenTxn → Change → List OpenTxn → List OpenTxn
happens_to None what os = os
happens_to (Some o) what os = replace (changed what o) os

abbrev pub happens : ℕ → Change → List OpenTxn → List OpenTxn
happens t what os = happens_to (find t os) what os
