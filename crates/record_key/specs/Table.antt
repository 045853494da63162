-- A table, and what an operation does to it.
use Rattle.std.specs.Prelude.{◌≡◌, ℕ, Bool, true, false, List, Option, Some, None}
use Rattle.std.specs.Ordering.{nat_cmp}
use Rattle.std.specs.Cmp.Lexicographic.{slice_cmp}
use Rattle.std.specs.FinMap as map
use Rattle.std.specs.Coded.{Coded, coded_ℕ, coded_list}
use Rattle.record_key.specs.declared.op.Op.{Op}
use Rattle.record_key.specs.declared.op.Op.TheVariants.{Insert, Update, Upsert, Delete, Add}
use Rattle.record_key.specs.declared.op.Answer.{Answer}
use Rattle.record_key.specs.declared.op.Answer.TheVariants.{Inserted, Updated, Was, Deleted, Exists, NoRecord, NotNumber, Added}
use Rattle.record_key.specs.Amounts.{summed}

-- a key or a value, by its bytes
abbrev pub Bytes : Type 0
Bytes = List ℕ

-- a table, by its records in the order of the keys' bytes
abbrev pub Table : Type 0
Table = map.FinMap (slice_cmp nat_cmp) Bytes

-- by the list of its records
abbrev pub table_code : Coded Table
table_code = map.code (coded_list coded_ℕ) (coded_list coded_ℕ)

-- the key that an operation names
abbrev pub key_of : Op → Bytes
key_of (Insert k v) = k
key_of (Update k v) = k
key_of (Upsert k v) = k
key_of (Delete k) = k
key_of (Add k x) = k

-- an increment
abbrev pub is_add : Op → Bool
is_add (Add k x) = true
is_add _ = false

-- both are increments
abbrev pub AreAdds : Op → Op → Type 0
AreAdds o q = (is_add o ≡ true) × (is_add q ≡ true)

-- what an Add of this amount comes to, where this is the sum
abbrev pub add_answer : ℕ → Option Bytes → Answer
add_answer x None = NotNumber
add_answer x (Some sum) = Added x

abbrev pub add_value : Bytes → Option Bytes → Bytes
add_value old None = old
add_value old (Some sum) = sum

-- the answer, where this is the record at the operation's key
abbrev pub answer_at : Op → Option Bytes → Answer
answer_at (Insert k v) None = Inserted
answer_at (Insert k v) (Some old) = Exists
answer_at (Update k v) None = NoRecord
answer_at (Update k v) (Some old) = Updated old
answer_at (Upsert k v) old = Was old
answer_at (Delete k) None = NoRecord
answer_at (Delete k) (Some old) = Deleted old
answer_at (Add k x) None = NoRecord
answer_at (Add k x) (Some old) = add_answer x (summed old x)

-- the record that stands at the operation's key afterwards
abbrev pub value_after : Op → Option Bytes → Option Bytes
value_after (Insert k v) None = Some v
value_after (Insert k v) (Some old) = Some old
value_after (Update k v) None = None
value_after (Update k v) (Some old) = Some v
value_after (Upsert k v) old = Some v
value_after (Delete k) old = None
value_after (Add k x) None = None
value_after (Add k x) (Some old) = Some (add_value old (summed old x))

-- the table with this at a key
abbrev pub with_record : Table → Bytes → Option Bytes → Table
with_record m k None = map.remove m k
with_record m k (Some v) = map.insert m k v

-- what an operation answers, and the table that it leaves
abbrev pub answer_in : Table → Op → Answer
answer_in m o = answer_at o (map.get m (key_of o))

abbrev pub after : Table → Op → Table
after m o = with_record m (key_of o) (value_after o (map.get m (key_of o)))
