-- What a request asks and a reply tells, apart from the message around it.
use Rattle.std.specs.Prelude.{◌≡◌, ℕ, List, Option, Some, None}
use Rattle.record_key.specs.declared.op.Op.{Op}
use Rattle.record_key.specs.declared.op.Answer.{Answer}
use Rattle.record_key.specs.declared.op.Answer.TheVariants.{Exists}
use Rattle.record_key.specs.Table.{Bytes}
use Rattle.record_key.specs.declared.lent.Change.{Change}
use Rattle.record_key.specs.Lent.{op_on}
use Rattle.codec.specs.Fields.{answer_bytes, IsAnswer}
use Rattle.codec.specs.Reading.{answer_at}
use Rattle.codec.specs.declared.parted.Asking.{Asking}
use Rattle.codec.specs.declared.parted_reads.Reading.{Reading}
use Rattle.codec.specs.declared.request.Request.{Request}
use Rattle.codec.specs.declared.request.Request.TheVariants as asks
use Rattle.codec.specs.declared.reply.Reply.{Reply}
use Rattle.codec.specs.declared.reply.Reply.TheVariants as says

-- both, where both are there
abbrev pub both : {A B : Type 0} → Option A → Option B → Option (A × B)
both (Some a) (Some b) = Some (a, b)
both _ _ = None

-- the numbers and the operation of a request to perform
abbrev pub asking_of : Request → Option (Asking × Op)
asking_of (asks.Perform session n stable o) = Some (record { session = session; number = n; stable = stable }, o)
asking_of _ = None

-- the same of the numbers and what is done to the record of a key, where the key is there
abbrev pub asked_with : Option (Asking × Change) → Option Bytes → Option (Asking × Op)
asked_with (Some asked) (Some key) = Some (asked.0, op_on key asked.1)
asked_with _ _ = None

-- the request that they make
abbrev pub request_to : Asking → Op → Request
request_to q o = asks.Perform q.session q.number q.stable o

-- the number and the answer of a reply that answers
abbrev pub answered_of : Reply → Option (ℕ × Option Answer)
answered_of (says.Answered session n a) = Some (n, a)
answered_of _ = None

-- the numbers and the key of a request to read one
abbrev pub reading_of : Request → Option (Reading × Bytes)
reading_of (asks.Get session read key) = Some (record { session = session; read = read }, key)
reading_of _ = None

-- the request that they make
abbrev pub get_of : Reading → Bytes → Request
get_of q key = asks.Get q.session q.read key

-- the number and the value of a reply to it
abbrev pub found_of : Reply → Option (ℕ × Option Bytes)
found_of (says.Row session read value) = Some (read, value)
found_of _ = None

-- a reply that has rows
abbrev pub rows_of : Reply → Option Reply
rows_of (says.Rows session read rows) = Some (says.Rows session read rows)
rows_of _ = None

-- the fields of a request to perform, of which the operation is kept apart
abbrev pub asked_parts : ℕ × (ℕ × (ℕ × Op)) → Asking × Option Op
asked_parts p = (record { session = p.0; number = p.1.0; stable = p.1.1.0 }, Some p.1.1.1)

-- the answer that bytes spell; another where they spell none
abbrev pub answer_or : Option (Answer × List ℕ) → Answer
answer_or None = Exists
answer_or (Some read) = read.0

unfoldable pub answer_in : List ℕ → Answer
answer_in bytes = answer_or (answer_at bytes)

-- they spell one, and no more
abbrev pub SpellAnswer : List ℕ → Type 0
SpellAnswer bytes = (bytes ≡ answer_bytes (answer_in bytes)) × IsAnswer (answer_in bytes)
