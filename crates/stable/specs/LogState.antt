-- A log device in memory as its callers see it.
use Rattle.std.specs.Prelude.{ℕ, List, Result}
use Rattle.stable.specs.Usage.{Usage, used}
use Rattle.stable.specs.declared.error.DeviceError.{DeviceError}

-- its bytes, those that are forced first, and how it was used
pub record LogState : Type 0 where
  -- what every crash leaves
  pub forced : List ℕ
  -- what was appended after these
  pub pending : List ℕ
  pub usage : Usage

-- the log with its bytes changed, and the rest as it was
abbrev pub with_bytes : LogState → List ℕ → List ℕ → LogState
with_bytes log forced pending = record log { forced = forced; pending = pending }

-- the log after a call that gave this answer, its bytes as they were
abbrev pub log_after : {T : Type 0} → LogState → Result T DeviceError → LogState
log_after log answer = record log { usage = used log.usage answer }
