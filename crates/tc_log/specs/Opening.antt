-- What the bytes of a device are when they are opened: a log, or bad at a place.
use Rattle.std.specs.Prelude.{◌≡◌, ◌⊎◌, ℕ, ◌<◌, ◌^◌, IsTrue, nat_lt, List, length, if◌then◌else◌}
use Rattle.record_key.specs.declared.refusal.Refusal.{Refusal}
use Rattle.record_key.specs.declared.refusal.Refusal.TheVariants.{Device}
use Rattle.framed_log.specs.Opening as framed
use Rattle.stable.specs.Usage.{Usage, is_due, called, failed}
use Rattle.history.specs.declared.record.Record.{Record}
use Rattle.history.specs.Legal.{Fits, IsLegal}
use Rattle.tc_log.specs.Spelled.{framing, spelled}

-- the bytes begin with the frames of a legal log, and these are left
abbrev pub BeginsAs : List ℕ → List Record → List ℕ → Type 0
BeginsAs = framed.BeginsAs framing IsLegal

-- the records of the whole frames are the log, and what is left is nothing or a frame that is cut
pub record IsLogOf (bytes : List ℕ) (log : List Record) : Type 0 where
  pub legal : IsLegal log
  pub numbered : length log < 2 ^ 48
  pub frames : framed.HoldsFrames framing bytes log

-- why bytes aren't opened
abbrev pub RefusesBytes : List ℕ → Refusal → Type 0
RefusesBytes = framed.RefusesBytes framing IsLegal Fits

-- why a device isn't opened
abbrev pub RefusesOpen : List ℕ → Refusal → Type 0
RefusesOpen bytes given = (given ≡ Device) ⊎ RefusesBytes bytes given

-- how many calls of a device cut off what stands after the whole frames of a log
abbrev pub cut_calls : List ℕ → List Record → ℕ
cut_calls bytes log = if nat_lt (length (spelled log)) (length bytes) then 1 else 0

-- a call that was due to fail failed
abbrev pub FailsDue : Usage → Usage → Type 0
FailsDue old new = IsTrue (is_due old) × (new ≡ failed old)

-- how a device was used that couldn't be read: the one call of it failed, or was made in vain
abbrev pub UsedToRead : Usage → Refusal → Usage → Type 0
UsedToRead old Device new = FailsDue old new
UsedToRead old _ new = new ≡ called old

-- and one that wasn't opened: the call that failed read it, or was the next one, which cuts
abbrev pub UsedToOpen : Usage → Refusal → Usage → Type 0
UsedToOpen old Device new = FailsDue old new ⊎ FailsDue (called old) new
UsedToOpen old _ new = new ≡ called old
