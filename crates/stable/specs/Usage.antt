-- How a device has been used, and which of its calls fails. Counts that contracts alone see, without a last value.
use Rattle.std.specs.Prelude.{ℕ, ◌+◌, ◌<◌, ◌≤◌, ◌||◌, Bool, false, nat_le, Option, Some, None, Result, Ok, Err, if◌then◌else◌}
use Rattle.stable.specs.declared.error.DeviceError.{DeviceError}
use Rattle.stable.specs.declared.error.DeviceError.TheVariants.{NoMemory, Device}

-- how many calls were made, and how many of them failed; and which fails
pub record Usage : Type 0 where
  pub calls : ℕ
  pub failures : ℕ
  -- the number of the call that was set to fail, if it is still to come
  pub failing : Option ℕ
  -- whether other calls may fail too
  pub freely : Bool

-- a call's number, by which one it is after so many calls
abbrev pub counted_from : ℕ → Option ℕ → Option ℕ
counted_from calls None = None
counted_from calls (Some n) = Some (calls + n)

-- a count down is to a call from the next one on
abbrev pub Counts : Option ℕ → Type 0
Counts None = Unit {0}
Counts (Some n) = 1 ≤ n

-- the call that was set to fail is the next one
abbrev pub is_next : Option ℕ → ℕ → Bool
is_next None calls = false
is_next (Some n) calls = nat_le n (calls + 1)

-- the next call may fail
abbrev pub is_due : Usage → Bool
is_due u = u.freely || is_next u.failing u.calls

-- the next call was set to fail
abbrev pub is_set : Usage → Bool
is_set u = is_next u.failing u.calls

-- which call is set to fail once one more was made, after so many: what was set happens once
abbrev pub still_failing : Option ℕ → ℕ → Option ℕ
still_failing None calls = None
still_failing (Some n) calls = if nat_le n (calls + 1) then None else Some n

-- one call more, which succeeded, or failed: one that fails otherwise leaves the failure that was set still to come
abbrev pub called : Usage → Usage
called u = record u { calls = u.calls + 1 }

abbrev pub failed : Usage → Usage
failed u = record u { calls = u.calls + 1; failures = u.failures + 1; failing = still_failing u.failing u.calls }

-- after a call that gave this answer: one that is refused for memory isn't counted
abbrev pub used : {T : Type 0} → Usage → Result T DeviceError → Usage
used u (Ok _) = called u
used u (Err NoMemory) = u
used u (Err Device) = failed u

-- the n-th call from now is set to fail, in the place of one that was set and is still to come
abbrev pub failing_in : ℕ → Usage → Usage
failing_in n u = record u { failing = Some (u.calls + n) }

-- a failure is still to come after so many calls
abbrev pub IsAhead : Option ℕ → ℕ → Type 0
IsAhead None calls = Unit {0}
IsAhead (Some n) calls = calls < n

-- the failure that was set is still to come: so no call that was due has succeeded
abbrev pub IsToCome : Usage → Type 0
IsToCome u = IsAhead u.failing u.calls

-- so many calls more, all of which succeeded
abbrev pub called_often : ℕ → Usage → Usage
called_often n u = record u { calls = u.calls + n }

-- never used, and none of its calls was set to fail
abbrev pub unused : Usage
unused = record { calls = 0; failures = 0; failing = None; freely = false }
