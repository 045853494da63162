-- Which logs a node is made of, and why one isn't opened.
use Rattle.std.specs.Prelude.{◌≡◌, ◌⊎◌, ℕ, List, ◌∷◌, Some}
use Rattle.record_key.specs.declared.refusal.Refusal.TheVariants.{NoMemory, Device}
use Rattle.stable.specs.Usage.{Usage, called}
use Rattle.history.specs.declared.record.Record.{Record}
use Rattle.history.specs.declared.record.Record.TheVariants as is
use Rattle.history.specs.Log.{record_at, before}
use Rattle.history.specs.Values.{HasRightAnswers}
use Rattle.tc_log.specs.Opening.{IsLogOf, RefusesOpen, UsedToOpen}
use Rattle.node_store.specs.declared.unopened.Cause.{Cause}
use Rattle.node_store.specs.declared.unopened.Cause.TheVariants as no

-- no record of it is of a checkpoint
abbrev pub HasNoCheckpoint : List Record → Type 0
HasNoCheckpoint log = (n low : ℕ) → record_at log n ≡ Some (is.Checkpoint low) → ⊥

-- a node may be made of it: each answer is what its operation gets, and no checkpoint stands in it
pub record IsFit (log : List Record) : Type 0 where
  pub right : HasRightAnswers log
  pub unchecked : HasNoCheckpoint log

-- the record of this number is the next one after records that are fit
pub record IsFirst (log : List Record) (n : ℕ) (next : Record) : Type 0 where
  pub stands : record_at log n ≡ Some next
  pub fit : IsFit (before log n)

-- it is the first that is wrong, for with it the answers aren't right
pub record IsWrong (log : List Record) (n : ℕ) : Type 0 where
  pub next : Record
  pub first : IsFirst log n next
  pub wrong : HasRightAnswers (next ∷ before log n) → ⊥

-- why a legal log isn't taken
abbrev pub IsWrongIn : List Record → Cause → Type 0
IsWrongIn log (no.Refused r) = r ≡ NoMemory
IsWrongIn log (no.Checkpoint n) = (low : ℕ) × IsFirst log n (is.Checkpoint low)
IsWrongIn log (no.WrongAnswer n) = IsWrong log n

-- the bytes spell a log that isn't taken for this
pub record IsWrongOn (bytes : List ℕ) (why : Cause) : Type 0 where
  pub log : List Record
  pub spelled : IsLogOf bytes log
  pub wrong : IsWrongIn log why

-- why a device isn't opened
abbrev pub IsRefusedFor : List ℕ → Cause → Type 0
IsRefusedFor bytes (no.Refused r) = RefusesOpen bytes r
IsRefusedFor bytes why = IsWrongOn bytes why

-- how the device of a log was used that isn't opened. Device is answered just where a call failed that was due to: the
-- one that reads it, or the next one, which cuts a last frame off. Where memory lacked it may be that none was made; else
-- the one call that reads it was
abbrev pub UsedInVain : Usage → Cause → Usage → Type 0
UsedInVain old (no.Refused NoMemory) new = (new ≡ old) ⊎ (new ≡ called old)
UsedInVain old (no.Refused r) new = UsedToOpen old r new
UsedInVain old why new = new ≡ called old
