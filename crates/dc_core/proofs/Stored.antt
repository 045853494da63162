-- The greatest session in the stable beginning of a log never falls.
use Rattle.std.proofs.Common.{◌≡◌, ℕ, ◌≤◌, List, ◌∷◌, length, ap, arith, inl, inr}
use Rattle.std.proofs.lemmas.Bool.{cases_lt}
use Rattle.codec.specs.declared.dc_record.DcRecord.{DcRecord}
use Rattle.codec.specs.declared.dc_record.DcRecord.TheVariants as is
use Rattle.dc_recovery.specs.Recovery.{stored_session}
use Rattle.framed_log.specs.Beginning.{beginning}
use Rattle.framed_log.proofs.Beginning.{whole, everything, shorter, of_beginning}

-- a record more
stored_last : (r : DcRecord) (log : List DcRecord) → stored_session log ≤ stored_session (r ∷ log)
stored_last (is.Accept session) log = omega arith
stored_last (is.Split left cut right) log = omega arith
stored_last (is.Merge left right merged) log = omega arith

pub stored_within : (log : List DcRecord) (n : ℕ) → stored_session (beginning log n) ≤ stored_session log
stored_within log n =
    of_beginning (λ (l : List DcRecord). stored_session l ≤ stored_session log) n
    (λ r l more was. omega (arith, was, stored_last r l)) log (omega arith)

pub stored_grown : (r : DcRecord) (log : List DcRecord) (n : ℕ)
    → stored_session (beginning log n) ≤ stored_session (beginning (r ∷ log) n)
stored_grown r log n =
    elim (cases_lt (length log) n) [
      | inl less ↦
          let all = ap stored_session (whole (r ∷ log) n (omega (arith, less))) in
          omega (arith, stored_within log n, stored_last r log, all)
      | inr ge ↦ let same = ap stored_session (shorter r log n ge) in omega (arith, same)
    ]

-- all of it stable
pub stored_all : (log : List DcRecord) → stored_session (beginning log (length log)) ≡ stored_session log
stored_all log = ap stored_session (everything log)

pub stored_forced : (log : List DcRecord) (n : ℕ)
    → stored_session (beginning log n) ≤ stored_session (beginning log (length log))
stored_forced log n = omega (arith, stored_within log n, stored_all log)
