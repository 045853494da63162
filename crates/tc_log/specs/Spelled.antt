-- A log as bytes: the frames of its records one after another.
use Rattle.std.specs.Prelude.{◌≡◌, ℕ, ◌-◌, ◌<◌, ◌≤◌, get_or, List, length, Some}
use Rattle.record_key.specs.declared.op.Op.{Op}
use Rattle.codec.specs.Fields.{op_bytes, IsOp}
use Rattle.codec.specs.Frames.{IsThere}
use Rattle.codec.specs.Records.{record_bytes, IsRecord}
use Rattle.codec.specs.Reading.{record_at}
use Rattle.framed_log.specs.Spelled as framed
use Rattle.history.specs.Log.{record_at as record_numbered, request_in}
use Rattle.history.specs.declared.record.Record.{Record}
use Rattle.history.specs.declared.record.Record.TheVariants as is

-- how records stand in frames
abbrev pub framing : framed.Framing Record
framing = record { spell = record_bytes; Fits = IsRecord; limit = 181; read = record_at; other = is.Session }

-- the frames of the records, the oldest first
abbrev pub spelled : List Record → List ℕ
spelled = framed.spelled framing

-- where the frame of each record begins
abbrev pub places : List Record → List ℕ
places = framed.places framing

-- each record has a spelling
abbrev pub AreRecords : List Record → Type 0
AreRecords = framed.AreRecords framing

-- the records whose frames begin at these places, the last one first
abbrev pub records_at : List ℕ → List ℕ → List Record
records_at = framed.records_at framing

-- the records of the first frames of the bytes, so many, the last one first
abbrev pub records_of : List ℕ → ℕ → List Record
records_of = framed.records_of framing

-- of these places this is the one of a number
pub record IsPlaceOf (begins : List ℕ) (n place : ℕ) : Type 0 where
  pub positive : 0 < n
  pub bounded : n ≤ length begins
  pub at : place ≡ get_or begins (n - 1) place

-- what the record of this number asks for has a spelling, and these bytes are it
pub record IsAskedBy (log : List Record) (n : ℕ) (bytes : List ℕ) : Type 0 where
  pub op : Op
  pub asked : request_in (record_numbered log n) ≡ Some op
  pub fits : IsOp op
  pub spelled : bytes ≡ op_bytes op
  pub short : length bytes ≤ 164

-- of the bytes left after a log, the first are a record's frame, and the next place is after it
abbrev pub StandsNext : List Record → List ℕ → Record → ℕ → Type 0
StandsNext log left r next = IsThere Record record_bytes IsRecord (length (spelled log)) left r next
