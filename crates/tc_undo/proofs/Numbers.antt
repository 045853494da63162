-- The numbers in a record that fits are those of the log, so each can be spelled.
use Rattle.std.proofs.Common.{ℕ, ◌<◌, ◌≤◌, List, length, arith, inl, inr}
use Rattle.history.specs.declared.record.Record.{Record}
use Rattle.history.specs.declared.record.Record.TheVariants as is
use Rattle.history.specs.Legal.{Fits, IsLatestOrNone, Stands}
use Rattle.codec.specs.Records.{HasNumbers}
use Rattle.log_laws.proofs.LegalLogs.{begun_number, request_number, stands_number}
use Rattle.log_laws.proofs.Undo.{latest_number}

next_number : (log : List Record) (t u x : ℕ) → u ≤ length log → IsLatestOrNone (λ n. Stands log t n × (n < u)) x
    → x ≤ length log
next_number log t u x within (inl h) = omega (arith, h.is.1, within)
next_number log t u x within (inr h) = omega (arith, h.0)

pub fits_numbers : (log : List Record) (r : Record) → length log ≤ 281474976710655 → Fits log r → HasNumbers r
fits_numbers log is.Session few fits = tt
fits_numbers log is.Begin few fits = tt
fits_numbers log (is.Op t p o) few fits = (
  omega (arith, (begun_number log t fits.open_txn.begun).bounded, few),
  omega (arith, latest_number log t p fits.prev, few),
)
fits_numbers log (is.Answer n a) few fits = omega (arith, (request_number log n fits.op fits.requested).bounded, few)
fits_numbers log (is.Comp t u x i) few fits =
    let within = (stands_number log t u fits.latest.is).bounded in (
      omega (arith, (begun_number log t fits.open_txn.begun).bounded, few),
      omega (arith, within, few),
      omega (arith, next_number log t u x within fits.next, few),
    )
fits_numbers log (is.Commit t) few fits = omega (arith, (begun_number log t fits.open_txn.begun).bounded, few)
fits_numbers log (is.End t) few fits = omega (arith, (begun_number log t fits.open_txn.begun).bounded, few)
fits_numbers log (is.Checkpoint l) few fits = omega (arith, fits.within, few)
