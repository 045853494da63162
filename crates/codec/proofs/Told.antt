-- What a record's kind and the fields behind it tell of the record.
use Rattle.std.proofs.Common.{◌≡◌, ◌≢◌, ℕ, ◌⊎◌, List, ◌∷◌, ◌++◌, [], length, drop, Option, Some, None, option_map, refl, sym, ap, subst, ◌∙◌, append_assoc, arith, inl, inr}
use Rattle.std.proofs.lemmas.List.{drop_at}
use Rattle.std.proofs.lemmas.Option.{none-some, same_Some}
use Rattle.history.specs.declared.record.Record.{Record}
use Rattle.history.specs.declared.record.Record.TheVariants as is
use Rattle.history.specs.Log.{request_of, step_of}
use Rattle.history.specs.Chains.{undo_from, prev_in}
use Rattle.record_key.specs.declared.op.Op.{Op}
use Rattle.codec.specs.Fields.{number, optional, op_bytes, answer_bytes}
use Rattle.codec.specs.Frames.{frame}
use Rattle.codec.specs.Reading.{◌>>=◌, byte_at, number_at, op_at, optional_at}
use Rattle.codec.specs.Records.{record_bytes, IsRecord}
use Rattle.codec.proofs.Fields.{length-number, numbers_length, number_reads, op_reads, optional_reads}

-- a value that was read, without the bytes after it
abbrev pub first : {X : Type 0} → Option (X × List ℕ) → Option X
first found = option_map (λ x. x.0) found

-- the same where there may be none
abbrev pub inner : {X : Type 0} → Option (Option X × List ℕ) → Option X
inner None = None
inner (Some x) = x.0

pub inner_first : {X : Type 0} → (found : Option (X × List ℕ))
    → inner (found >>= λ x. Some (Some x.0, x.1)) ≡ first found
inner_first None = refl
inner_first (Some x) = refl

abbrev pub kind : Record → ℕ
kind is.Session = 1
kind is.Begin = 2
kind (is.Op txn prev o) = 3
kind (is.Answer of a) = 4
kind (is.Comp txn undoes next inverse) = 5
kind (is.Commit txn) = 6
kind (is.End txn) = 7
kind (is.Checkpoint low) = 8

abbrev pub fields : Record → List ℕ
fields is.Session = []
fields is.Begin = []
fields (is.Op txn prev o) = number txn ++ (number prev ++ op_bytes o)
fields (is.Answer of a) = number of ++ answer_bytes a
fields (is.Comp txn undoes next inverse) = number txn ++ (number undoes ++ (number next ++ optional op_bytes inverse))
fields (is.Commit txn) = number txn
fields (is.End txn) = number txn
fields (is.Checkpoint low) = number low

pub spelled : (r : Record) → record_bytes r ≡ kind r ∷ fields r
unfolding record_bytes
spelled is.Session = refl
spelled is.Begin = refl
spelled (is.Op txn prev o) = refl
spelled (is.Answer of a) = refl
spelled (is.Comp txn undoes next inverse) = refl
spelled (is.Commit txn) = refl
spelled (is.End txn) = refl
spelled (is.Checkpoint low) = refl

-- a body is split into the kind and the fields
pub record IsSplit (r : Record) (k : ℕ) (tail : List ℕ) : Type 0 where
  pub kind_is : k ≡ kind r
  pub tail_is : tail ≡ fields r

pub split : (r : Record) (body : List ℕ) (k : ℕ) (tail : List ℕ) → body ≡ k ∷ tail → body ≡ record_bytes r
    → IsSplit r k tail
split r body k tail parts stands =
    let both : k ∷ tail ≡ kind r ∷ fields r = sym parts ∙ stands ∙ spelled r in
    record { kind_is = cc both; tail_is = cc both }

-- they stand behind the length
behind : (r : Record) (left rest : List ℕ) → left ≡ frame (record_bytes r) ++ rest
    → byte_at (drop 8 left) ≡ Some (kind r, fields r ++ rest)
behind r left rest e =
    let body : List ℕ = record_bytes r in
    let after : drop 8 left ≡ body ++ rest = ap (drop 8) (e ∙ append_assoc (number (length body)) body rest)
    ∙ drop_at (number (length body)) (body ++ rest) 8 (length-number (length body)) in
    ap byte_at (after ∙ ap (λ (b : List ℕ). b ++ rest) (spelled r))

-- so what is read there are the record's own
record Stands (r : Record) (rest : List ℕ) (k : ℕ) (tail : List ℕ) : Type 0 where
  kind_is : k ≡ kind r
  tail_is : tail ≡ fields r ++ rest

stands : (r : Record) (left rest : List ℕ) (k : ℕ) (tail : List ℕ) → left ≡ frame (record_bytes r) ++ rest
    → byte_at (drop 8 left) ≡ Some (k, tail) → Stands r rest k tail
stands r left rest k tail e read =
    let same = same_Some (k, tail) (kind r, fields r ++ rest) (sym read ∙ behind r left rest e) in
    record { kind_is = ap (λ (p : ℕ × List ℕ). p.0) same; tail_is = ap (λ (p : ℕ × List ℕ). p.1) same }

abbrev IsStep : ℕ → Type 0
IsStep k = (k ≡ 3) ⊎ (k ≡ 5)

-- the first number of an Op or a Comp record is its transaction
step_read : (r : Record) (rest : List ℕ) → IsRecord r → IsStep (kind r)
    → first (number_at (fields r ++ rest)) ≡ step_of r
step_read (is.Op txn prev o) rest fits step =
    ap (λ (b : List ℕ). first (number_at b)) (append_assoc (number txn) (number prev ++ op_bytes o) rest)
    ∙ ap first (number_reads.again txn ((number prev ++ op_bytes o) ++ rest) fits.0)
step_read (is.Comp txn undoes next inverse) rest fits step =
    let more : List ℕ = number undoes ++ (number next ++ optional op_bytes inverse) in
    ap (λ (b : List ℕ). first (number_at b)) (append_assoc (number txn) more rest)
    ∙ ap first (number_reads.again txn (more ++ rest) fits.0)
step_read is.Session rest fits step = elim step [ inl e ↦ absurd (cc) | inr e ↦ absurd (cc) ]
step_read is.Begin rest fits step = elim step [ inl e ↦ absurd (cc) | inr e ↦ absurd (cc) ]
step_read (is.Answer of a) rest fits step = elim step [ inl e ↦ absurd (cc) | inr e ↦ absurd (cc) ]
step_read (is.Commit txn) rest fits step = elim step [ inl e ↦ absurd (cc) | inr e ↦ absurd (cc) ]
step_read (is.End txn) rest fits step = elim step [ inl e ↦ absurd (cc) | inr e ↦ absurd (cc) ]
step_read (is.Checkpoint low) rest fits step = elim step [ inl e ↦ absurd (cc) | inr e ↦ absurd (cc) ]

-- and no other record is a step
no_step : (r : Record) → kind r ≢ 3 → kind r ≢ 5 → step_of r ≡ None
no_step (is.Op txn prev o) op comp = absurd (op refl)
no_step (is.Comp txn undoes next inverse) op comp = absurd (comp refl)
no_step is.Session op comp = refl
no_step is.Begin op comp = refl
no_step (is.Answer of a) op comp = refl
no_step (is.Commit txn) op comp = refl
no_step (is.End txn) op comp = refl
no_step (is.Checkpoint low) op comp = refl

-- behind a Comp record's two numbers stands what is left to undo
next_read : (r : Record) (rest : List ℕ) (n : ℕ) → IsRecord r → kind r ≡ 5
    → first (number_at (drop 16 (fields r ++ rest))) ≡ Some (undo_from (Some r) n)
next_read (is.Comp txn undoes next inverse) rest n fits comp =
    let numbers : List ℕ = number txn ++ number undoes in
    let more : List ℕ = optional op_bytes inverse in
    let tail : List ℕ = number next ++ more in
    let parts : fields (is.Comp txn undoes next inverse) ++ rest ≡ numbers ++ (tail ++ rest) =
    ap (λ (b : List ℕ). b ++ rest) (sym (append_assoc (number txn) (number undoes) tail))
    ∙ append_assoc numbers tail rest in
    let two : length numbers ≡ 16 = omega (arith, numbers_length txn (number undoes), length-number undoes) in
    ap (λ (b : List ℕ). first (number_at b))
    (ap (drop 16) parts ∙ drop_at numbers (tail ++ rest) 16 two ∙ append_assoc (number next) more rest)
    ∙ ap first (number_reads.again next (more ++ rest) fits.1.1.0)
next_read is.Session rest n fits comp = absurd (cc)
next_read is.Begin rest n fits comp = absurd (cc)
next_read (is.Op txn prev o) rest n fits comp = absurd (cc)
next_read (is.Answer of a) rest n fits comp = absurd (cc)
next_read (is.Commit txn) rest n fits comp = absurd (cc)
next_read (is.End txn) rest n fits comp = absurd (cc)
next_read (is.Checkpoint low) rest n fits comp = absurd (cc)

-- which from an Op record is the record, and from no other one anything
itself_left : (r : Record) (n : ℕ) → kind r ≡ 3 → n ≡ undo_from (Some r) n
itself_left (is.Op txn prev o) n op = refl
itself_left is.Session n op = absurd (cc)
itself_left is.Begin n op = absurd (cc)
itself_left (is.Answer of a) n op = absurd (cc)
itself_left (is.Comp txn undoes next inverse) n op = absurd (cc)
itself_left (is.Commit txn) n op = absurd (cc)
itself_left (is.End txn) n op = absurd (cc)
itself_left (is.Checkpoint low) n op = absurd (cc)

nothing_left : (r : Record) (n : ℕ) → kind r ≢ 3 → kind r ≢ 5 → 0 ≡ undo_from (Some r) n
nothing_left (is.Op txn prev o) n op comp = absurd (op refl)
nothing_left (is.Comp txn undoes next inverse) n op comp = absurd (comp refl)
nothing_left is.Session n op comp = refl
nothing_left is.Begin n op comp = refl
nothing_left (is.Answer of a) n op comp = refl
nothing_left (is.Commit txn) n op comp = refl
nothing_left (is.End txn) n op comp = refl
nothing_left (is.Checkpoint low) n op comp = refl

-- behind an Op record's first number stands the step before it, and no other record has one
prev_read : (r : Record) (rest : List ℕ) → IsRecord r → kind r ≡ 3
    → first (number_at (drop 8 (fields r ++ rest))) ≡ Some (prev_in (Some r))
prev_read (is.Op txn prev o) rest fits op =
    let more : List ℕ = op_bytes o in
    let parts : fields (is.Op txn prev o) ++ rest ≡ number txn ++ (number prev ++ (more ++ rest)) =
    append_assoc (number txn) (number prev ++ more) rest
    ∙ ap (λ (b : List ℕ). number txn ++ b) (append_assoc (number prev) more rest) in
    ap (λ (b : List ℕ). first (number_at b))
    (ap (drop 8) parts ∙ drop_at (number txn) (number prev ++ (more ++ rest)) 8 (length-number txn))
    ∙ ap first (number_reads.again prev (more ++ rest) fits.1.0)
prev_read is.Session rest fits op = absurd (cc)
prev_read is.Begin rest fits op = absurd (cc)
prev_read (is.Answer of a) rest fits op = absurd (cc)
prev_read (is.Comp txn undoes next inverse) rest fits op = absurd (cc)
prev_read (is.Commit txn) rest fits op = absurd (cc)
prev_read (is.End txn) rest fits op = absurd (cc)
prev_read (is.Checkpoint low) rest fits op = absurd (cc)

no_prev : (r : Record) → kind r ≢ 3 → 0 ≡ prev_in (Some r)
no_prev (is.Op txn prev o) op = absurd (op refl)
no_prev is.Session op = refl
no_prev is.Begin op = refl
no_prev (is.Answer of a) op = refl
no_prev (is.Comp txn undoes next inverse) op = refl
no_prev (is.Commit txn) op = refl
no_prev (is.End txn) op = refl
no_prev (is.Checkpoint low) op = refl

-- behind an Op record's two numbers stands what it asks for
op_read : (r : Record) (rest : List ℕ) → IsRecord r → kind r ≡ 3
    → first (op_at (drop 16 (fields r ++ rest))) ≡ request_of r
op_read (is.Op txn prev o) rest fits op =
    let numbers : List ℕ = number txn ++ number prev in
    let parts : fields (is.Op txn prev o) ++ rest ≡ numbers ++ (op_bytes o ++ rest) =
    ap (λ (b : List ℕ). b ++ rest) (sym (append_assoc (number txn) (number prev) (op_bytes o)))
    ∙ append_assoc numbers (op_bytes o) rest in
    let two : length numbers ≡ 16 = omega (arith, numbers_length txn (number prev), length-number prev) in
    ap (λ (b : List ℕ). first (op_at b)) (ap (drop 16) parts ∙ drop_at numbers (op_bytes o ++ rest) 16 two)
    ∙ ap first (op_reads.again o rest fits.1.1)
op_read is.Session rest fits op = absurd (cc)
op_read is.Begin rest fits op = absurd (cc)
op_read (is.Answer of a) rest fits op = absurd (cc)
op_read (is.Comp txn undoes next inverse) rest fits op = absurd (cc)
op_read (is.Commit txn) rest fits op = absurd (cc)
op_read (is.End txn) rest fits op = absurd (cc)
op_read (is.Checkpoint low) rest fits op = absurd (cc)

-- behind a Comp record's three numbers stands its inverse
inverse_read : (r : Record) (rest : List ℕ) → IsRecord r → kind r ≡ 5
    → inner (optional_at op_at (drop 24 (fields r ++ rest))) ≡ request_of r
inverse_read (is.Comp txn undoes next inverse) rest fits comp =
    let two : List ℕ = number undoes ++ number next in
    let numbers : List ℕ = number txn ++ two in
    let tail : List ℕ = optional op_bytes inverse in
    let all : fields (is.Comp txn undoes next inverse) ≡ numbers ++ tail =
    ap (λ (b : List ℕ). number txn ++ b) (sym (append_assoc (number undoes) (number next) tail))
    ∙ sym (append_assoc (number txn) two tail) in
    let parts : fields (is.Comp txn undoes next inverse) ++ rest ≡ numbers ++ (tail ++ rest) =
    ap (λ (b : List ℕ). b ++ rest) all ∙ append_assoc numbers tail rest in
    let three : length numbers ≡ 24 =
    omega (arith, numbers_length txn two, numbers_length undoes (number next), length-number next) in
    ap (λ (b : List ℕ). inner (optional_at op_at b)) (ap (drop 24) parts ∙ drop_at numbers (tail ++ rest) 24 three)
    ∙ ap inner ((optional_reads Op op_bytes _ op_at op_reads).again inverse rest fits.1.1.1)
inverse_read is.Session rest fits comp = absurd (cc)
inverse_read is.Begin rest fits comp = absurd (cc)
inverse_read (is.Op txn prev o) rest fits comp = absurd (cc)
inverse_read (is.Answer of a) rest fits comp = absurd (cc)
inverse_read (is.Commit txn) rest fits comp = absurd (cc)
inverse_read (is.End txn) rest fits comp = absurd (cc)
inverse_read (is.Checkpoint low) rest fits comp = absurd (cc)

-- and no other record asks for anything
pub asks_nothing : (r : Record) → kind r ≢ 3 → kind r ≢ 5 → request_of r ≡ None
asks_nothing (is.Op txn prev o) op comp = absurd (op refl)
asks_nothing (is.Comp txn undoes next inverse) op comp = absurd (comp refl)
asks_nothing is.Session op comp = refl
asks_nothing is.Begin op comp = refl
asks_nothing (is.Answer of a) op comp = refl
asks_nothing (is.Commit txn) op comp = refl
asks_nothing (is.End txn) op comp = refl
asks_nothing (is.Checkpoint low) op comp = refl

-- ---- what is told of the record whose frame the bytes begin with, by the kind and the bytes after it

module _ (r : Record) (left rest : List ℕ) (k : ℕ) (tail : List ℕ) where
  pub step_told : IsRecord r → left ≡ frame (record_bytes r) ++ rest → byte_at (drop 8 left) ≡ Some (k, tail)
      → IsStep k → first (number_at tail) ≡ step_of r
  step_told fits e read step =
      let own = stands r left rest k tail e read in
      ap (λ (b : List ℕ). first (number_at b)) own.tail_is
      ∙ step_read r rest fits (subst IsStep own.kind_is step)

  pub no_step_told : left ≡ frame (record_bytes r) ++ rest → byte_at (drop 8 left) ≡ Some (k, tail)
      → k ≢ 3 → k ≢ 5 → None ≡ step_of r
  no_step_told e read op comp =
      let own = stands r left rest k tail e read in
      sym (no_step r (λ is. op (own.kind_is ∙ is)) (λ is. comp (own.kind_is ∙ is)))

  pub itself_told : left ≡ frame (record_bytes r) ++ rest → byte_at (drop 8 left) ≡ Some (k, tail)
      → k ≡ 3 → (n : ℕ) → n ≡ undo_from (Some r) n
  itself_told e read op n = itself_left r n (sym (stands r left rest k tail e read).kind_is ∙ op)

  pub next_told : IsRecord r → left ≡ frame (record_bytes r) ++ rest → byte_at (drop 8 left) ≡ Some (k, tail)
      → k ≡ 5 → (n : ℕ) → first (number_at (drop 16 tail)) ≡ Some (undo_from (Some r) n)
  next_told fits e read comp n =
      let own = stands r left rest k tail e read in
      ap (λ (b : List ℕ). first (number_at (drop 16 b))) own.tail_is
      ∙ next_read r rest n fits (sym own.kind_is ∙ comp)

  pub prev_told : IsRecord r → left ≡ frame (record_bytes r) ++ rest → byte_at (drop 8 left) ≡ Some (k, tail)
      → k ≡ 3 → first (number_at (drop 8 tail)) ≡ Some (prev_in (Some r))
  prev_told fits e read op =
      let own = stands r left rest k tail e read in
      ap (λ (b : List ℕ). first (number_at (drop 8 b))) own.tail_is
      ∙ prev_read r rest fits (sym own.kind_is ∙ op)

  pub no_prev_told : left ≡ frame (record_bytes r) ++ rest → byte_at (drop 8 left) ≡ Some (k, tail)
      → k ≢ 3 → 0 ≡ prev_in (Some r)
  no_prev_told e read op = no_prev r (λ is. op ((stands r left rest k tail e read).kind_is ∙ is))

  pub nothing_left_told : left ≡ frame (record_bytes r) ++ rest → byte_at (drop 8 left) ≡ Some (k, tail)
      → k ≢ 3 → k ≢ 5 → (n : ℕ) → 0 ≡ undo_from (Some r) n
  nothing_left_told e read op comp n =
      let own = stands r left rest k tail e read in
      nothing_left r n (λ is. op (own.kind_is ∙ is)) (λ is. comp (own.kind_is ∙ is))

  pub op_told : IsRecord r → left ≡ frame (record_bytes r) ++ rest → byte_at (drop 8 left) ≡ Some (k, tail)
      → k ≡ 3 → first (op_at (drop 16 tail)) ≡ request_of r
  op_told fits e read op =
      let own = stands r left rest k tail e read in
      ap (λ (b : List ℕ). first (op_at (drop 16 b))) own.tail_is
      ∙ op_read r rest fits (sym own.kind_is ∙ op)

  pub inverse_told : IsRecord r → left ≡ frame (record_bytes r) ++ rest → byte_at (drop 8 left) ≡ Some (k, tail)
      → k ≡ 5 → inner (optional_at op_at (drop 24 tail)) ≡ request_of r
  inverse_told fits e read comp =
      let own = stands r left rest k tail e read in
      ap (λ (b : List ℕ). inner (optional_at op_at (drop 24 b))) own.tail_is
      ∙ inverse_read r rest fits (sym own.kind_is ∙ comp)

  pub asks_nothing_told : left ≡ frame (record_bytes r) ++ rest → byte_at (drop 8 left) ≡ Some (k, tail)
      → k ≢ 3 → k ≢ 5 → None ≡ request_of r
  asks_nothing_told e read op comp =
      let own = stands r left rest k tail e read in
      sym (asks_nothing r (λ is. op (own.kind_is ∙ is)) (λ is. comp (own.kind_is ∙ is)))

-- a kind stands there
pub kind_stands : (r : Record) (left rest : List ℕ) → left ≡ frame (record_bytes r) ++ rest
    → byte_at (drop 8 left) ≡ None → ⊥
kind_stands r left rest e none = none-some (kind r, fields r ++ rest) (sym none ∙ behind r left rest e)
