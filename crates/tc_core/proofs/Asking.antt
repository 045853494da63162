-- The first request from a number on, and that none stands before it.
use Rattle.std.proofs.Common.{◌≡◌, ℕ, List, Option, Some, None, refl, arith}
use Rattle.std.specs.Prelude.{IsSome}
use Rattle.record_key.specs.declared.op.Op.{Op}
use Rattle.history.specs.Log.{HasRequest, record_at, request_in}
use Rattle.history.specs.declared.record.Record.{Record}
use Rattle.tc_restart.specs.Losers.{IsLeast}
use Rattle.tc_restart.specs.Redo.{Asks}
use Rattle.tc_core.specs.Undo.{AsksNothing}

pub none_asks : (log : List Record) (from below : ℕ) → ((n : ℕ) → Asks log from below n → ⊥)
    → AsksNothing log from below
none_asks log from below none n o le lt asks =
    none n (record { from_there = le; up_to = lt; asks = rw asks refl })

pub none_before : (log : List Record) (from below first : ℕ) → IsLeast (Asks log from below) first
    → AsksNothing log from first
none_before log from below first found n o le lt asks =
    absurd (omega (
      arith,
      lt,
      found.least n
          (record { from_there = le; up_to = omega (arith, lt, found.is.up_to); asks = rw asks refl }),
    ))

pub has_request : (log : List Record) (from below n : ℕ) → Asks log from below n → HasRequest log n
has_request log from below n asked = by (request_in (record_at log n)) refl asked.asks
  where
    by : (r : Option Op) → request_in (record_at log n) ≡ r → IsSome r → HasRequest log n
    by None is some = absurd (cc (some))
    by (Some o) is some = record { op = o; requested = is }
