-- What is known of records that were judged one after another.
use Rattle.std.specs.Prelude.{◌≡◌, List, Option, Some, None}
use Rattle.history.specs.declared.record.Record.{Record}
use Rattle.node_store.specs.Opening.{HasNoCheckpoint, IsWrongIn}
use Rattle.node_store.specs.declared.unopened.Cause.{Cause}

-- all of them were taken and none is of a checkpoint, or they are refused for the first that is wrong
abbrev pub IsJudged : List Record → List Record → Option Cause → Type 0
IsJudged log taken None = (taken ≡ log) × HasNoCheckpoint log
IsJudged log taken (Some cause) = IsWrongIn log cause
