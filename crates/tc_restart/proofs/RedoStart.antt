-- Where redo starts.
use Rattle.std.proofs.Common.{◌≡◌, ℕ, ◌≤◌, List, length, Some, arith, inl, inr}
use Rattle.history.specs.declared.record.Record.{Record}
use Rattle.history.specs.declared.record.Record.TheVariants as is
use Rattle.history.specs.Log.{before}
use Rattle.history.specs.Legal.{IsLegal, IsLatestOrNone, FitsCheckpoint}
use Rattle.log_laws.proofs.Records.{within, length_before}
use Rattle.log_laws.proofs.LegalLogs.{fits_at}
use Rattle.tc_log.specs.Checkpointed.{IsCheckpointed}

-- a checkpoint names no later number
low_within : (log : List Record) (low : ℕ) → IsLegal log → IsCheckpointed log low → low ≤ length log
low_within log low legal h =
    let number = within (λ x. x ≡ Some (is.Checkpoint low)) (λ f. cc) log h.0 h.1 in
    let fits : FitsCheckpoint (before log h.0) low = fits_at log h.0 (is.Checkpoint low) legal h.1 in
    omega (arith, fits.within, length_before log h.0 number, number.bounded)

pub latest_within : (log : List Record) (low : ℕ) → IsLegal log → IsLatestOrNone (IsCheckpointed log) low
    → low ≤ length log
latest_within log low legal (inl h) = low_within log low legal h.is
latest_within log low legal (inr none) = omega (arith, none.0)
