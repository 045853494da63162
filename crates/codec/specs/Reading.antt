-- Reading from left to right: a value and the bytes after it, or nothing.
use Rattle.std.specs.Prelude.{◌≡◌, ℕ, zero, suc, ◌+◌, ◌^◌, List, [], ◌∷◌, length, take, drop, Option, Some, None, IsSome, Result, Ok, Err, Bool, true, false, ◌&&◌, nat_lt, ◌==◌, if◌then◌else◌}
use Rattle.std.specs.List.{list_all}
use Rattle.record_key.specs.Table.{Bytes}
use Rattle.record_key.specs.declared.op.Op.{Op}
use Rattle.record_key.specs.declared.op.Op.TheVariants.{Insert, Update, Upsert, Delete, Add}
use Rattle.record_key.specs.declared.op.Answer.{Answer}
use Rattle.record_key.specs.declared.op.Answer.TheVariants.{Inserted, Updated, Was, Deleted, Exists, NoRecord, NotNumber, Added}
use Rattle.history.specs.declared.record.Record.{Record}
use Rattle.history.specs.declared.record.Record.TheVariants as is
use Rattle.codec.specs.declared.request.Request.{Request}
use Rattle.codec.specs.declared.request.Request.TheVariants as asks
use Rattle.codec.specs.declared.taken.Taken.{Taken}
use Rattle.codec.specs.declared.taken.Taken.TheVariants as took
use Rattle.codec.specs.declared.frame.FrameEnd.{FrameEnd}
use Rattle.codec.specs.declared.frame.FrameEnd.TheVariants as ends
use Rattle.record_key.specs.Rows.{Row, rises}
use Rattle.record_key.specs.Order.{is_below, is_between}
use Rattle.codec.specs.declared.reply.Reply.{Reply}
use Rattle.codec.specs.declared.reply.Reply.TheVariants as says
use Rattle.codec.specs.declared.fault.Fault.{Fault}
use Rattle.codec.specs.declared.fault.Fault.TheVariants as faults
use Rattle.codec.specs.Fields.{first_number}
use Rattle.record_key.specs.declared.entry.Entry.{Entry}
use Rattle.codec.specs.declared.image.LeafImage.{LeafImage}
use Rattle.codec.specs.declared.dc_record.DcRecord.{DcRecord}
use Rattle.codec.specs.declared.dc_record.DcRecord.TheVariants as notes

infixl 10 ◌>>=◌
abbrev pub ◌>>=◌ : {A B : Type 0} → Option A → (A → Option B) → Option B
(Some x) >>= f = f x
None >>= f = None

-- what a function returned, seen by view, is what reading gives
abbrev pub Gives : {X Y : Type 0} → (X → Y) → Option X → Option Y → Type 0
Gives view (Some x) read = read ≡ Some (view x)
Gives view None read = read ≡ None

-- the same of a function that takes memory, unless memory was refused
abbrev pub Finds : {X Y : Type 0} → (X → Y) → Result X Fault → Option Y → Type 0
Finds view (Ok x) read = read ≡ Some (view x)
Finds view (Err faults.Memory) read = Unit {0}
Finds view (Err faults.Outside) read = read ≡ None

-- memory was refused, and this holds then
abbrev pub IfRefused : {X : Type 0} → Result X Fault → Type 0 → Type 0
IfRefused (Ok x) P = Unit {0}
IfRefused (Err faults.Memory) P = P
IfRefused (Err faults.Outside) P = Unit {0}

abbrev pub Reader : Type 0 → Type 0
Reader X = List ℕ → Option (X × List ℕ)

-- a value of no bytes
abbrev pub fixed : {X : Type 0} → X → Reader X
fixed x bytes = Some (x, bytes)

-- one part, then the other
abbrev pub pair : {X Y : Type 0} → Reader X → Reader Y → Reader (X × Y)
pair first second bytes = first bytes >>= λ x. second x.1 >>= λ y. Some ((x.0, y.0), y.1)

-- what is made of a part
abbrev pub mapped : {X Y : Type 0} → (X → Y) → Reader X → Reader Y
mapped make part bytes = part bytes >>= λ x. Some (make x.0, x.1)

-- a part that passes a test
abbrev pub where_ : {X : Type 0} → (X → Bool) → Reader X → Reader X
where_ test part bytes = part bytes >>= λ x. if test x.0 then Some x else None

abbrev pub byte_at : Reader ℕ
byte_at [] = None
byte_at (b ∷ rest) = Some (b, rest)

-- the reader of the first choice with this kind
abbrev pub choose : {X : Type 0} → List (ℕ × Reader X) → ℕ → Reader X
choose [] kind bytes = None
choose (c ∷ cs) kind bytes = if kind == c.0 then c.1 bytes else choose cs kind bytes

-- a byte that tells which of these follows
abbrev pub one_of : {X : Type 0} → List (ℕ × Reader X) → Reader X
one_of choices bytes = byte_at bytes >>= λ kind. choose choices kind.0 kind.1

-- a number below a bound
unfoldable pub below_at : ℕ → Reader ℕ
below_at bound bytes = if nat_lt (length bytes) 8 then None else
    (if nat_lt (first_number bytes) bound then Some (first_number bytes, drop 8 bytes) else None)

abbrev pub number_at : Reader ℕ
number_at = below_at (2 ^ 48)

-- how many follow, or an amount
abbrev pub count_at : Reader ℕ
count_at = below_at (2 ^ 64)

-- this many, one after the other
unfoldable pub items_at : {X : Type 0} → Reader X → ℕ → Reader (List X)
items_at part zero bytes = Some ([], bytes)
items_at part (suc n) bytes = part bytes >>= λ x. items_at part n x.1 >>= λ xs. Some (x.0 ∷ xs.0, xs.1)

-- how many, then each
abbrev pub counted_at : {X : Type 0} → Reader X → Reader (List X)
counted_at part bytes = count_at bytes >>= λ n. items_at part n.0 n.1

unfoldable pub bytes_at : Reader Bytes
bytes_at bytes = byte_at bytes >>= λ n. if nat_lt (length n.1) n.0 then None else Some (take n.0 n.1, drop n.0 n.1)

-- a text of at least low bytes and at most high
abbrev pub text_at : ℕ → ℕ → Reader Bytes
text_at low high bytes =
    bytes_at bytes >>= λ t. if nat_lt (length t.0) low then None else if nat_lt high (length t.0) then None else Some t

unfoldable pub key_at : Reader Bytes
key_at = text_at 1 32

unfoldable pub value_at : Reader Bytes
value_at = text_at 0 120

-- a key and a value
abbrev pub row_at : Reader (Bytes × Bytes)
row_at = pair key_at value_at

unfoldable pub flag_at : Reader Bool
flag_at = one_of ((0, fixed false) ∷ (1, fixed true) ∷ [])

abbrev pub optional_at : {X : Type 0} → Reader X → Reader (Option X)
optional_at part bytes = flag_at bytes >>= λ f. if f.0 then mapped (λ x. Some x) part f.1 else Some (None, f.1)

-- the bytes after a flag, where it is set
abbrev pub bytes_if : List ℕ → Option (List ℕ)
bytes_if [] = None
bytes_if (flag ∷ bytes) = if flag == 1 then Some bytes else None

unfoldable pub op_at : Reader Op
op_at = one_of (
    (1, mapped (λ p. Insert p.0 p.1) row_at)
    ∷ (2, mapped (λ p. Update p.0 p.1) row_at)
    ∷ (3, mapped (λ p. Upsert p.0 p.1) row_at)
    ∷ (4, mapped (λ key. Delete key) key_at)
    ∷ (5, mapped (λ p. Add p.0 p.1) (pair key_at count_at))
    ∷ [])

unfoldable pub answer_at : Reader Answer
answer_at = one_of (
    (1, fixed Inserted)
    ∷ (2, mapped (λ value. Updated value) value_at)
    ∷ (3, fixed (Was None))
    ∷ (4, mapped (λ value. Was (Some value)) value_at)
    ∷ (5, mapped (λ value. Deleted value) value_at)
    ∷ (6, fixed Exists)
    ∷ (7, fixed NoRecord)
    ∷ (8, fixed NotNumber)
    ∷ (9, mapped (λ amount. Added amount) count_at)
    ∷ [])

unfoldable pub record_at : Reader Record
record_at = one_of (
    (1, fixed is.Session)
    ∷ (2, fixed is.Begin)
    ∷ (3, mapped (λ p. is.Op p.0 p.1.0 p.1.1) (pair number_at (pair number_at op_at)))
    ∷ (4, mapped (λ p. is.Answer p.0 p.1) (pair number_at answer_at))
    ∷ (
      5,
      mapped (λ p. is.Comp p.0 p.1.0 p.1.1.0 p.1.1.1)
          (pair number_at (pair number_at (pair number_at (optional_at op_at)))),
    )
    ∷ (6, mapped (λ txn. is.Commit txn) number_at)
    ∷ (7, mapped (λ txn. is.End txn) number_at)
    ∷ (8, mapped (λ low. is.Checkpoint low) number_at)
    ∷ [])

unfoldable pub request_at : Reader Request
request_at = one_of (
    (1, mapped (λ p. asks.Connect p.0 p.1) (pair number_at number_at))
    ∷ (
      2,
      mapped (λ p. asks.Perform p.0 p.1.0 p.1.1.0 p.1.1.1)
          (pair number_at (pair number_at (pair number_at op_at))),
    )
    ∷ (3, mapped (λ p. asks.Get p.0 p.1.0 p.1.1) (pair number_at (pair number_at key_at)))
    ∷ (
      4,
      mapped (λ p. asks.Scan p.0 p.1.0 p.1.1.0 p.1.1.1)
          (pair number_at (pair number_at (pair key_at (optional_at key_at)))),
    )
    ∷ (5, mapped (λ p. asks.LowWater p.0 p.1) (pair number_at number_at))
    ∷ (6, mapped (λ p. asks.Checkpoint p.0 p.1) (pair number_at number_at))
    ∷ (7, mapped (λ session. asks.RedoEnd session) number_at)
    ∷ (8, mapped (λ p. asks.StableEnd p.0 p.1) (pair number_at number_at))
    ∷ [])

unfoldable pub rows_at : Reader (List Row)
rows_at = where_ rises (counted_at row_at)

-- what follows so many rows whose keys rise from above this one
unfoldable pub rows_end : Bytes → ℕ → List ℕ → Option (List ℕ)
rows_end before zero bytes = Some bytes
rows_end before (suc n) bytes = row_at bytes >>= λ x. if is_below before x.0.0 then rows_end x.0.0 n x.1 else None

abbrev pub reply_choices : List (ℕ × Reader Reply)
reply_choices =
    (17, mapped (λ session. says.Connected session) number_at)
    ∷ (18, mapped (λ p. says.Answered p.0 p.1.0 p.1.1) (pair number_at (pair number_at (optional_at answer_at))))
    ∷ (19, mapped (λ p. says.Row p.0 p.1.0 p.1.1) (pair number_at (pair number_at (optional_at value_at))))
    ∷ (20, mapped (λ p. says.Rows p.0 p.1.0 p.1.1) (pair number_at (pair number_at rows_at)))
    ∷ (21, mapped (λ p. says.Checkpointed p.0 p.1) (pair number_at number_at))
    ∷ (22, mapped (λ session. says.RedoEnded session) number_at)
    ∷ []

unfoldable pub reply_at : Reader Reply
reply_at = one_of reply_choices

-- a number, a key and an answer
abbrev pub entry_at : Reader Entry
entry_at = mapped (λ p. record { number = p.0; key = p.1.0; answer = p.1.1 }) (pair number_at (pair key_at answer_at))

unfoldable pub entries_at : Reader (List Entry)
entries_at = counted_at entry_at

abbrev pub image_numbers_at : Reader (ℕ × (ℕ × ℕ))
image_numbers_at = pair number_at (pair number_at number_at)

abbrev pub fences_at : Reader (Option Bytes × Option Bytes)
fences_at = pair (optional_at key_at) (optional_at key_at)

-- the bytes begin with the numbers and the fences of an image
abbrev pub BeginsAsImage : List ℕ → Type 0
BeginsAsImage bytes = IsSome (pair image_numbers_at fences_at bytes)

abbrev pub ImageParts : Type 0
ImageParts = (ℕ × (ℕ × ℕ)) × ((Option Bytes × Option Bytes) × (List Row × List Entry))

abbrev pub image_parts_at : Reader ImageParts
image_parts_at = pair image_numbers_at (pair fences_at (pair rows_at entries_at))

abbrev pub image_of : ImageParts → LeafImage
image_of p = record {
  id = p.0.0;
  last = p.0.1.0;
  low = p.0.1.1;
  low_fence = p.1.0.0;
  high_fence = p.1.0.1;
  rows = p.1.1.0;
  entries = p.1.1.1;
}

-- whether each entry's number is above the one before it, the first above low
abbrev pub numbers_rise : ℕ → List Entry → Bool
numbers_rise low [] = true
numbers_rise low (entry ∷ entries) = if nat_lt low entry.number then numbers_rise entry.number entries else false

abbrev pub rows_lie : Option Bytes → Option Bytes → List Row → Bool
rows_lie low high rows = list_all (λ (row : Row). is_between low high row.0) rows

abbrev pub entries_stand : Option Bytes → Option Bytes → List Entry → Bool
entries_stand low high entries = list_all (λ (entry : Entry). is_between low high entry.key) entries

-- whether the keys lie in the fences, and the entries' numbers rise above low
abbrev pub keeps_bounds : LeafImage → Bool
keeps_bounds image =
    rows_lie image.low_fence image.high_fence image.rows
    && (entries_stand image.low_fence image.high_fence image.entries && numbers_rise image.low image.entries)

unfoldable pub image_at : Reader LeafImage
image_at = where_ keeps_bounds (mapped image_of image_parts_at)

-- two leaves and the image of the first, whose number it has
abbrev pub merge_at : Reader (ℕ × (ℕ × LeafImage))
merge_at = where_ (λ p. p.1.1.id == p.0) (pair number_at (pair number_at image_at))

unfoldable pub dc_record_at : Reader DcRecord
dc_record_at = one_of (
    (1, mapped (λ session. notes.Accept session) number_at)
    ∷ (2, mapped (λ p. notes.Split p.0 p.1.0 p.1.1) (pair number_at (pair key_at image_at)))
    ∷ (3, mapped (λ p. notes.Merge p.0 p.1.0 p.1.1) merge_at)
    ∷ [])

-- the value that all of the bytes spell
abbrev pub all_of : {X : Type 0} → Reader X → List ℕ → Option X
all_of part bytes = part bytes >>= λ x. if length x.1 == 0 then Some x.0 else None

-- the body of the frame that begins at a place, where it has at most limit bytes and left are the bytes from there on
unfoldable pub frame_at : ℕ → ℕ → List ℕ → Taken Bytes
frame_at limit place left =
    if nat_lt (length left) 8 then took.Short
    else if first_number left == 0 then took.Bad place
    else if nat_lt limit (first_number left) then took.Bad place
    else if nat_lt (length left) (8 + first_number left) then took.Short
    else took.Record (take (first_number left) (drop 8 left)) (place + (8 + first_number left))

abbrev pub value_or_bad : {X : Type 0} → ℕ → ℕ → Option X → Taken X
value_or_bad place next None = took.Bad place
value_or_bad place next (Some x) = took.Record x next

-- the value that all of a frame's body spells
abbrev pub within : {X : Type 0} → ℕ → Reader X → Taken Bytes → Taken X
within place part (took.Record body next) = value_or_bad place next (all_of part body)
within place part took.Short = took.Short
within place part (took.Bad at) = took.Bad at

-- a value that was put in its place, and where its frame ends, as what was taken at a place
abbrev pub taken_at : {X : Type 0} → ℕ → FrameEnd → X → Taken X
taken_at place (ends.At next) x = took.Record x next
taken_at place ends.Short x = took.Short
taken_at place ends.Bad x = took.Bad place

-- what was taken, seen by view
abbrev pub seen : {X Y : Type 0} → (X → Y) → Taken X → Taken Y
seen view (took.Record x next) = took.Record (view x) next
seen view took.Short = took.Short
seen view (took.Bad place) = took.Bad place
