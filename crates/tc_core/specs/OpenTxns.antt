-- Open transactions by their numbers, the newest first.
use Rattle.std.specs.Prelude.{ℕ, ◌<◌, ◌==◌, ◌||◌, Bool, false, List, [], ◌∷◌, Option, Some, None, is_some, if◌then◌else◌}
use Rattle.std.specs.List.{AllByRecursion}
use Rattle.tc_core.specs.declared.open_txn.OpenTxn.{OpenTxn}
use Rattle.tc_core.specs.declared.open_txn.Read.{Read}
use Rattle.tc_core.specs.declared.open_txns.Wanted.{Wanted}
use Rattle.tc_core.specs.declared.open_txns.Wanted.TheVariants.{Unanswered, Rolling, Reader}

-- the transaction of this number
abbrev pub find : ℕ → List OpenTxn → Option OpenTxn
find t [] = None
find t (o ∷ os) = if o.txn == t then Some o else find t os

-- this one in the place of that of its number
abbrev pub replace : OpenTxn → List OpenTxn → List OpenTxn
replace new [] = []
replace new (o ∷ os) = (if o.txn == new.txn then new else o) ∷ replace new os

-- all but that of this number
abbrev pub without : ℕ → List OpenTxn → List OpenTxn
without t [] = []
without t (o ∷ os) = if o.txn == t then without t os else o ∷ without t os

-- each number is above those after it
abbrev pub AreBelow : ℕ → List OpenTxn → Type 0
AreBelow t os = AllByRecursion (λ (o : OpenTxn). o.txn < t) os

abbrev pub AreFalling : List OpenTxn → Type 0
AreFalling [] = Unit {0}
AreFalling (o ∷ os) = AreBelow o.txn os × AreFalling os

-- of those that pass the test, the one with the least number: the last
abbrev pub unless : Option OpenTxn → Option OpenTxn → Option OpenTxn
unless (Some o) other = Some o
unless None other = other

abbrev pub oldest : (OpenTxn → Bool) → List OpenTxn → Option OpenTxn
oldest test [] = None
oldest test (o ∷ os) = unless (oldest test os) (if test o then Some o else None)

-- the read that it waits for has this number
abbrev pub is_read : ℕ → Option Read → Bool
is_read n None = false
is_read n (Some r) = r.number == n

-- who is looked for: those that wait, those that are being rolled back, or who asked the read of this number
abbrev pub wants : Wanted → OpenTxn → Bool
wants Unanswered o = is_some o.waiting || is_some o.reading
wants Rolling o = is_some o.rolling
wants (Reader n) o = is_read n o.reading
