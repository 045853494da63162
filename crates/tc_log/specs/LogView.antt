-- What callers see of a log, and what its calls do to it.
use Rattle.std.specs.Prelude.{◌≡◌, ℕ, ◌+◌, Bool, false, List, [], ◌∷◌, Option, Result, Ok, Err, length, nat_le}
use Rattle.record_key.specs.FirstCause.{first_of}
use Rattle.record_key.specs.declared.refusal.Refusal.{Refusal}
use Rattle.record_key.specs.declared.refusal.Refusal.TheVariants.{NumbersSpent}
use Rattle.framed_log.specs.Refused.{refused_use}
use Rattle.stable.specs.Usage.{Usage, called}
use Rattle.history.specs.declared.record.Record.{Record}
use Rattle.history.specs.declared.record.Record.TheVariants.{Session}

-- the records, the newest first, how many of them are stable, and how the device was used
pub record LogView : Type 0 where
  pub records : List Record
  pub stable : ℕ
  pub usage : Usage

-- the number of the last record that isn't a Session, 0 if there is none
abbrev pub last_not_session : List Record → ℕ
last_not_session [] = 0
last_not_session (Session ∷ log) = last_not_session log
last_not_session (r ∷ log) = length log + 1

-- the next number would be 2 to the power of 48
abbrev pub is_spent : List Record → Bool
is_spent log = nat_le 281474976710655 (length log)

abbrev pub spent_refusal : List Record → Option Refusal
spent_refusal log = first_of ((is_spent log, NumbersSpent) ∷ [])

-- the record stands at this number, after all the others, by one call of the device
pub record Appends (old : LogView) (r : Record) (number : ℕ) (new : LogView) : Type 0 where
  pub unspent : is_spent old.records ≡ false
  pub number_is : number ≡ length old.records + 1
  pub log : new ≡ record old { records = r ∷ old.records; usage = called old.usage }

-- the device after one call of it that gave this answer
abbrev pub usage_after : {T : Type 0} → Usage → Result T Refusal → Usage
usage_after u (Ok _) = called u
usage_after u (Err r) = refused_use u r

-- the log after a call that was refused so: as it was, but for that
abbrev pub after_refusal : LogView → Refusal → LogView
after_refusal log r = record log { usage = refused_use log.usage r }
