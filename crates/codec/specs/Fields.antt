-- The one spelling of each part of a message, and which parts have one.
use Rattle.std.specs.Prelude.{ℕ, ◌<◌, ◌≤◌, ◌^◌, Bool, true, false, List, [], ◌∷◌, ◌++◌, length, Option, Some, None, IfSome}
use Rattle.std.specs.List.{flat_map}
use Rattle.byteorder.specs.Endian.{big_bytes, big_number}
use Rattle.record_key.specs.Table.{Bytes}
use Rattle.record_key.specs.declared.op.Op.{Op}
use Rattle.record_key.specs.declared.op.Op.TheVariants.{Insert, Update, Upsert, Delete, Add}
use Rattle.record_key.specs.declared.op.Answer.{Answer}
use Rattle.record_key.specs.declared.op.Answer.TheVariants.{Inserted, Updated, Was, Deleted, Exists, NoRecord, NotNumber, Added}

-- eight bytes, the highest first
unfoldable pub number : ℕ → List ℕ
number n = big_bytes 8 n

-- the number that the first eight bytes spell
unfoldable pub first_number : List ℕ → ℕ
first_number bytes = big_number 8 bytes

-- log places, transactions, sessions, reads, leaves and the records of either log are numbered below this
abbrev pub IsNumber : ℕ → Type 0
IsNumber n = n < 2 ^ 48

-- amounts are any numbers of eight bytes
abbrev pub IsAmount : ℕ → Type 0
IsAmount n = n < 2 ^ 64

-- one byte of length, and that many bytes
abbrev pub text : Bytes → List ℕ
text bytes = length bytes ∷ bytes

abbrev pub HasLength : ℕ → ℕ → Bytes → Type 0
HasLength low high bytes = (low ≤ length bytes) × (length bytes ≤ high)

abbrev pub IsKey : Bytes → Type 0
IsKey key = HasLength 1 32 key

abbrev pub IsValue : Bytes → Type 0
IsValue value = HasLength 0 120 value

abbrev pub flag : Bool → List ℕ
flag false = 0 ∷ []
flag true = 1 ∷ []

-- a flag, and the part where there is one
abbrev pub optional : {X : Type 0} → (X → List ℕ) → Option X → List ℕ
optional spell None = flag false
optional spell (Some x) = flag true ++ spell x

-- how many, then each
abbrev pub counted : {X : Type 0} → (X → List ℕ) → List X → List ℕ
counted spell xs = number (length xs) ++ flat_map spell xs

unfoldable pub op_bytes : Op → List ℕ
op_bytes (Insert key value) = 1 ∷ text key ++ text value
op_bytes (Update key value) = 2 ∷ text key ++ text value
op_bytes (Upsert key value) = 3 ∷ text key ++ text value
op_bytes (Delete key) = 4 ∷ text key
op_bytes (Add key amount) = 5 ∷ text key ++ number amount

abbrev pub IsOp : Op → Type 0
IsOp (Insert key value) = IsKey key × IsValue value
IsOp (Update key value) = IsKey key × IsValue value
IsOp (Upsert key value) = IsKey key × IsValue value
IsOp (Delete key) = IsKey key
IsOp (Add key amount) = IsKey key × IsAmount amount

unfoldable pub answer_bytes : Answer → List ℕ
answer_bytes Inserted = 1 ∷ []
answer_bytes (Updated value) = 2 ∷ text value
answer_bytes (Was None) = 3 ∷ []
answer_bytes (Was (Some value)) = 4 ∷ text value
answer_bytes (Deleted value) = 5 ∷ text value
answer_bytes Exists = 6 ∷ []
answer_bytes NoRecord = 7 ∷ []
answer_bytes NotNumber = 8 ∷ []
answer_bytes (Added amount) = 9 ∷ number amount

abbrev pub IsAnswer : Answer → Type 0
IsAnswer Inserted = Unit {0}
IsAnswer (Updated value) = IsValue value
IsAnswer (Was old) = IfSome old IsValue
IsAnswer (Deleted value) = IsValue value
IsAnswer Exists = Unit {0}
IsAnswer NoRecord = Unit {0}
IsAnswer NotNumber = Unit {0}
IsAnswer (Added amount) = IsAmount amount
