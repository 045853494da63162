-- What a crash leaves of a log, and what is opened from it.
use Rattle.std.specs.Prelude.{◌≡◌, ◌⊎◌, ℕ, ◌<◌, ◌≤◌, ◌^◌, List, ◌++◌, length}
use Rattle.record_key.specs.declared.refusal.Refusal.{Refusal}
use Rattle.record_key.specs.declared.refusal.Refusal.TheVariants.{NoMemory, Device}
use Rattle.stable.specs.Crash.{BeginsWith, MayLeave}
use Rattle.framed_log.specs.Beginning.{beginning}
use Rattle.framed_log.specs.Crashed.{LeavesBeginning}
use Rattle.history.specs.declared.record.Record.{Record}
use Rattle.history.specs.Legal.{IsLegal}
use Rattle.tc_log.specs.Opening.{IsLogOf, RefusesOpen}
use Rattle.tc_log.specs.Spelled.{framing, spelled, AreRecords}

-- a crash leaves whole frames, and perhaps a cut one
abbrev pub CrashesLeaveLogs : Type 0
CrashesLeaveLogs =
    (log : List Record) (stable : ℕ) (forced pending left : List ℕ) → IsLegal log → AreRecords log
    → length log < 2 ^ 48 → stable ≤ length log → forced ++ pending ≡ spelled log
    → BeginsWith forced (spelled (beginning log stable)) → MayLeave forced pending left
    → LeavesBeginning framing IsLogOf log stable left

-- bytes are those of one log
abbrev pub OpensOnce : Type 0
OpensOnce = (bytes : List ℕ) (log other : List Record) → IsLogOf bytes log → IsLogOf bytes other → log ≡ other

-- and opening these isn't refused for what they are
abbrev pub NeverBad : Type 0
NeverBad =
    (bytes : List ℕ) (log : List Record) (r : Refusal) → IsLogOf bytes log → RefusesOpen bytes r
    → (r ≡ NoMemory) ⊎ (r ≡ Device)
