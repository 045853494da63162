-- A key and an answer as bytes: the key's length, the answer's kind, the length of its value, the key, the value.
use Rattle.std.specs.Prelude.{◌≡◌, ℕ, ◌<◌, ◌≤◌, ◌+◌, ◌^◌, ◌==◌, List, [], ◌∷◌, ◌++◌, length, take, drop, get_or, Some, None, if◌then◌else◌}
use Rattle.record_key.specs.Table.{Bytes}
use Rattle.record_key.specs.declared.op.Answer.{Answer}
use Rattle.record_key.specs.declared.op.Answer.TheVariants.{Inserted, Updated, Was, Deleted, Exists, NoRecord, NotNumber, Added}
use Rattle.record_key.specs.Amounts.{amount_bytes, amount_in}
use Rattle.record_key.specs.declared.entry.Entry.{Entry}
use Rattle.record_key.specs.declared.slot.Slot.{Slot}

abbrev pub kind_of : Answer → ℕ
kind_of Inserted = 1
kind_of (Updated value) = 2
kind_of (Was None) = 3
kind_of (Was (Some value)) = 4
kind_of (Deleted value) = 5
kind_of Exists = 6
kind_of NoRecord = 7
kind_of NotNumber = 8
kind_of (Added amount) = 9

-- the value or the amount that an answer tells, no bytes where it tells none
abbrev pub value_told : Answer → Bytes
value_told Inserted = []
value_told (Updated value) = value
value_told (Was None) = []
value_told (Was (Some value)) = value
value_told (Deleted value) = value
value_told Exists = []
value_told NoRecord = []
value_told NotNumber = []
value_told (Added amount) = amount_bytes amount

-- the amount that an answer tells, 0 where it tells none
abbrev pub amount_of : Answer → ℕ
amount_of (Added amount) = amount
amount_of _ = 0

-- the answer of this kind
abbrev pub answer_from : ℕ → Bytes → Answer
answer_from kind value =
    if kind == 1 then Inserted
    else if kind == 2 then Updated value
    else if kind == 3 then Was None
    else if kind == 4 then Was (Some value)
    else if kind == 5 then Deleted value
    else if kind == 6 then Exists
    else if kind == 8 then NotNumber
    else if kind == 9 then Added (amount_in value)
    else NoRecord

unfoldable pub packed : Bytes → Answer → List ℕ
packed key answer = length key ∷ kind_of answer ∷ length (value_told answer) ∷ (key ++ value_told answer)

-- the lengths that the bytes at a place begin with
abbrev pub key_len : List ℕ → ℕ → ℕ
key_len bytes place = get_or (drop place bytes) 0 0

abbrev pub value_len : List ℕ → ℕ → ℕ
value_len bytes place = get_or (drop place bytes) 2 0

-- the key at a place, and the answer
unfoldable pub key_at : List ℕ → ℕ → Bytes
key_at bytes place = take (key_len bytes place) (drop 3 (drop place bytes))

unfoldable pub packed_answer : List ℕ → ℕ → Answer
packed_answer bytes place = answer_from (get_or (drop place bytes) 1 0)
    (take (value_len bytes place) (drop (3 + key_len bytes place) (drop place bytes)))

-- a key and an answer that have lengths of their types stand at a place
pub record IsPacked (bytes : List ℕ) (place : ℕ) : Type 0 where
  pub some_key : 0 < key_len bytes place
  pub short_key : key_len bytes place ≤ 32
  pub short_value : value_len bytes place ≤ 120
  pub amount : get_or (drop place bytes) 1 0 ≡ 9 → value_len bytes place ≡ 8
  pub within : 3 + (key_len bytes place + value_len bytes place) ≤ length (drop place bytes)

-- an amount is of 8 bytes
abbrev pub HasAmount : Answer → Type 0
HasAmount (Added amount) = amount < 2 ^ 64
HasAmount _ = Unit {0}

-- what the types of a key and an answer ensure
pub record HasLengths (key : Bytes) (answer : Answer) : Type 0 where
  pub some_key : 0 < length key
  pub short_key : length key ≤ 32
  pub short_value : length (value_told answer) ≤ 120
  pub amount : HasAmount answer

-- the entry whose key and answer stand at its place
abbrev pub entry_in : List ℕ → Slot → Entry
entry_in bytes slot = record {
  number = slot.number;
  key = key_at bytes slot.place;
  answer = packed_answer bytes slot.place;
}

abbrev pub IsFilled : List ℕ → Slot → Type 0
IsFilled bytes slot = IsPacked bytes slot.place
