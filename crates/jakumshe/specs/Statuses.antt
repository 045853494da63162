-- The statuses that C is given.
use Rattle.std.specs.Prelude.{◌≡◌, ℕ, ℤ, pos, Result, Ok, Err}
use Rattle.record_key.specs.Refusals.{number_of}
use Rattle.record_key.specs.declared.refusal.Refusal.{Refusal}
use Rattle.record_key.specs.declared.refusal.Refusal.TheVariants.{NotNow}
use Rattle.jakumshe.specs.declared.fault.Fault.{Fault}
use Rattle.jakumshe.specs.declared.fault.Fault.TheVariants.{Refused, Closed, Open, Exists, NoRecord, NotNumber, Untold, WrongAnswer, Checkpoint, Damaged, Active}
use Rattle.node_store.specs.declared.unopened.Cause.{Cause}
use Rattle.node_store.specs.declared.unopened.Cause.TheVariants as why

-- the status of a call that ends so; 0 is that of one that is done, and 32, 42 to 44 and 46 are left to C
abbrev pub status : Fault → ℕ
status (Refused refusal) = number_of refusal
status Closed = 33
status Open = 34
status Exists = 35
status NoRecord = 36
status NotNumber = 37
status Untold = 38
status WrongAnswer = 39
status Checkpoint = 40
status Damaged = 41
status Active = 45

-- why a node isn't opened on a log
abbrev pub fault_of : Cause → Fault
fault_of (why.Refused refusal) = Refused refusal
fault_of (why.Checkpoint n) = Checkpoint
fault_of (why.WrongAnswer n) = WrongAnswer

-- why a node isn't renewed that has come to rest
abbrev pub renewal_fault : Refusal → Fault
renewal_fault NotNow = Active
renewal_fault refusal = Refused refusal

-- the status of a call that ends so
abbrev pub EndsWithStatus : {X : Type 0} → ℤ → Result X Fault → Type 0
EndsWithStatus given (Ok x) = given ≡ pos 0
EndsWithStatus given (Err fault) = given ≡ pos (status fault)
