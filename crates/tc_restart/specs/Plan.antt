-- What a log says after a crash.
use Rattle.std.specs.Prelude.{◌≡◌, ℕ, ◌+◌, List, [], ◌∷◌, Some, length, if◌then◌else◌}
use Rattle.std.specs.List.Sorted.{IsStrictlyIncreasing}
use Rattle.history.specs.declared.record.Record.{Record}
use Rattle.history.specs.declared.record.Record.TheVariants as is
use Rattle.history.specs.Log.{record_at}
use Rattle.history.specs.Legal.{IsLatestOrNone}
use Rattle.log_laws.specs.Reading.{LacksAnswer}
use Rattle.tc_log.specs.Checkpointed.{IsCheckpointed}
use Rattle.tc_log.specs.Index.{lacks_answer}
use Rattle.framed_log.specs.Beginning.{beginning}
use Rattle.tc_log.specs.Replay.{IsAnalysis}
use Rattle.tc_restart.specs.Lists.{Lists}
use Rattle.tc_restart.specs.declared.findings.Findings.{Findings}

-- the transaction's Commit record stands
abbrev pub HasCommit : List Record → ℕ → Type 0
HasCommit log t = (n : ℕ) × (record_at log n ≡ Some (is.Commit t))

-- one past the greatest number that a Checkpoint record names, else 1
pub record IsRedoStart (log : List Record) (start : ℕ) : Type 0 where
  pub low : ℕ
  pub greatest : IsLatestOrNone (IsCheckpointed log) low
  pub start_is : start ≡ low + 1

-- just the requests up to a number that have no answer are listed, in the order of their numbers
pub record AreMissing (log : List Record) (end : ℕ) (missing : List ℕ) : Type 0 where
  pub listed : Lists (LacksAnswer log end) missing
  pub rising : IsStrictlyIncreasing missing

-- what a record adds to the transactions that have committed
abbrev pub committed_by : Record → List ℕ
committed_by (is.Commit t) = t ∷ []
committed_by _ = []

-- and a number to the requests that have no answer
abbrev pub lacking : List Record → ℕ → List ℕ
lacking log n = if lacks_answer log n then n ∷ [] else []

-- what is found once the first records were read, up to this number
pub record IsFound (log : List Record) (end : ℕ) (f : Findings) : Type 0 where
  pub analysis : IsAnalysis (beginning log end) f.analysis
  pub winners : Lists (HasCommit (beginning log end)) f.winners.items
  pub missing : AreMissing log end f.missing.items

-- what is found in all records
pub record AreFindings (log : List Record) (f : Findings) : Type 0 where
  pub analysis : IsAnalysis log f.analysis
  pub winners : Lists (HasCommit log) f.winners.items
  pub missing : AreMissing log (length log) f.missing.items
