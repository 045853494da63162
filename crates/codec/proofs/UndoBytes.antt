-- How the bytes of an operation and of its answer spell what undoes it.
use Rattle.std.proofs.Common.{◌≡◌, ◌≢◌, ◌∙◌, ℕ, ◌<◌, ◌⊎◌, inl, inr, List, [], ◌∷◌, ◌++◌, length, take, drop, Option, Some, None, is_some, option_map, refl, sym, ap, arith}
use Rattle.std.specs.Prelude.{nat_lt, Result, Ok, Err, OnOk, ◌≤◌, ◌+◌}
use Rattle.std.proofs.lemmas.List.{append-nil, take_at, drop_at, length-append}
use Rattle.history.specs.declared.record.Record.{Record}
use Rattle.history.specs.declared.record.Record.TheVariants as is
use Rattle.inverse.specs.Inverse.{undo_of}
use Rattle.record_key.specs.Amounts.{negated}
use Rattle.record_key.specs.Packed.{kind_of}
use Rattle.record_key.specs.Table.{Bytes, key_of}
use Rattle.record_key.specs.declared.op.Op.{Op}
use Rattle.record_key.specs.declared.refusal.Refusal.{Refusal}
use Rattle.record_key.specs.declared.op.Op.TheVariants.{Insert, Update, Upsert, Delete, Add}
use Rattle.record_key.specs.declared.op.Answer.{Answer}
use Rattle.record_key.specs.declared.op.Answer.TheVariants.{Inserted, Updated, Was, Deleted, Exists, NoRecord, NotNumber, Added}
use Rattle.codec.specs.declared.undoing.CompNumbers.{CompNumbers}
use Rattle.codec.specs.Fields.{number, text, optional, op_bytes, answer_bytes, IsAnswer, IsAmount}
use Rattle.codec.specs.Records.{record_bytes}
use Rattle.codec.specs.Undoing.{answer_held, comp_bytes}
use Rattle.codec.specs.Frames.{frame}
use Rattle.codec.specs.Reading.{count_at}
use Rattle.codec.proofs.Fields.{length-number, count_reads}
use Rattle.codec.proofs.Told.{first, kind, fields, IsSplit, split}

-- ---- an operation's key

-- what follows an operation's kind: its key, and more
abbrev after_key : Op → List ℕ
after_key (Insert key value) = text value
after_key (Update key value) = text value
after_key (Upsert key value) = text value
after_key (Delete key) = []
after_key (Add key amount) = number amount

behind_kind : (o : Op) → drop 1 (op_bytes o) ≡ text (key_of o) ++ after_key o
unfolding op_bytes
behind_kind (Insert key value) = refl
behind_kind (Update key value) = refl
behind_kind (Upsert key value) = refl
behind_kind (Delete key) = sym (append-nil (text key))
behind_kind (Add key amount) = refl

-- of these bytes the first tells where the key ends
module _ (o : Op) (op rest : List ℕ) (whole : op ≡ op_bytes o) (behind : rest ≡ drop 1 op) where
  parts : rest ≡ text (key_of o) ++ after_key o
  parts = behind ∙ ap (drop 1) whole ∙ behind_kind o

  pub some_length : length rest ≡ 0 → ⊥
  some_length none = omega (arith, ap length parts, none)

  pub length_is : (n : ℕ) (more : List ℕ) → rest ≡ n ∷ more → n ≡ length (key_of o)
  length_is n more is = let e : n ∷ more ≡ text (key_of o) ++ after_key o = sym is ∙ parts in cc

  pub key_there : (n : ℕ) (more : List ℕ) → rest ≡ n ∷ more → length rest < 1 + n → ⊥
  key_there n more is past =
      omega (arith, past, length_is n more is, ap length parts, length-append (text (key_of o)) (after_key o))

  pub key_taken : (n : ℕ) (more : List ℕ) → rest ≡ n ∷ more → take (1 + n) rest ≡ text (key_of o)
  key_taken n more is =
      ap (take (1 + n)) parts
      ∙ take_at (text (key_of o)) (after_key o) (1 + n) (omega (arith, length_is n more is))

-- ---- an answer

abbrev answer_fields : Answer → List ℕ
answer_fields Inserted = []
answer_fields (Updated value) = text value
answer_fields (Was None) = []
answer_fields (Was (Some value)) = text value
answer_fields (Deleted value) = text value
answer_fields Exists = []
answer_fields NoRecord = []
answer_fields NotNumber = []
answer_fields (Added amount) = number amount

answer_spelled : (a : Answer) → answer_bytes a ≡ kind_of a ∷ answer_fields a
unfolding answer_bytes
answer_spelled Inserted = refl
answer_spelled (Updated value) = refl
answer_spelled (Was None) = refl
answer_spelled (Was (Some value)) = refl
answer_spelled (Deleted value) = refl
answer_spelled Exists = refl
answer_spelled NoRecord = refl
answer_spelled NotNumber = refl
answer_spelled (Added amount) = refl

-- ---- what undoes it, by its kind

deletes : (k : Bytes) (a : Answer) → (kind_of a ≡ 1) ⊎ (kind_of a ≡ 3)
    → (1 ∷ 4 ∷ []) ++ (text k ++ []) ≡ optional op_bytes (undo_of k a)
unfolding op_bytes
deletes k Inserted is = ap (λ (b : List ℕ). 1 ∷ 4 ∷ b) (append-nil (text k))
deletes k (Was None) is = ap (λ (b : List ℕ). 1 ∷ 4 ∷ b) (append-nil (text k))
deletes k (Updated value) is = elim is [ inl e ↦ absurd (cc) | inr e ↦ absurd (cc) ]
deletes k (Was (Some value)) is = elim is [ inl e ↦ absurd (cc) | inr e ↦ absurd (cc) ]
deletes k (Deleted value) is = elim is [ inl e ↦ absurd (cc) | inr e ↦ absurd (cc) ]
deletes k Exists is = elim is [ inl e ↦ absurd (cc) | inr e ↦ absurd (cc) ]
deletes k NoRecord is = elim is [ inl e ↦ absurd (cc) | inr e ↦ absurd (cc) ]
deletes k NotNumber is = elim is [ inl e ↦ absurd (cc) | inr e ↦ absurd (cc) ]
deletes k (Added amount) is = elim is [ inl e ↦ absurd (cc) | inr e ↦ absurd (cc) ]

updates : (k : Bytes) (a : Answer) → (kind_of a ≡ 2) ⊎ (kind_of a ≡ 4)
    → (1 ∷ 2 ∷ []) ++ (text k ++ answer_fields a) ≡ optional op_bytes (undo_of k a)
unfolding op_bytes
updates k (Updated value) is = refl
updates k (Was (Some value)) is = refl
updates k Inserted is = elim is [ inl e ↦ absurd (cc) | inr e ↦ absurd (cc) ]
updates k (Was None) is = elim is [ inl e ↦ absurd (cc) | inr e ↦ absurd (cc) ]
updates k (Deleted value) is = elim is [ inl e ↦ absurd (cc) | inr e ↦ absurd (cc) ]
updates k Exists is = elim is [ inl e ↦ absurd (cc) | inr e ↦ absurd (cc) ]
updates k NoRecord is = elim is [ inl e ↦ absurd (cc) | inr e ↦ absurd (cc) ]
updates k NotNumber is = elim is [ inl e ↦ absurd (cc) | inr e ↦ absurd (cc) ]
updates k (Added amount) is = elim is [ inl e ↦ absurd (cc) | inr e ↦ absurd (cc) ]

inserts : (k : Bytes) (a : Answer) → kind_of a ≡ 5
    → (1 ∷ 1 ∷ []) ++ (text k ++ answer_fields a) ≡ optional op_bytes (undo_of k a)
unfolding op_bytes
inserts k (Deleted value) is = refl
inserts k Inserted is = absurd (cc)
inserts k (Updated value) is = absurd (cc)
inserts k (Was None) is = absurd (cc)
inserts k (Was (Some value)) is = absurd (cc)
inserts k Exists is = absurd (cc)
inserts k NoRecord is = absurd (cc)
inserts k NotNumber is = absurd (cc)
inserts k (Added amount) is = absurd (cc)

-- the bytes that take back an amount which others spell
abbrev TakesBack : List ℕ → List ℕ → Type 0
TakesBack amount given = (x : ℕ) → IsAmount x → amount ≡ number x → given ≡ number (negated x)

adds : (k : Bytes) (a : Answer) (given : List ℕ) → IsAnswer a → kind_of a ≡ 9 → TakesBack (answer_fields a) given
    → (1 ∷ 5 ∷ []) ++ (text k ++ given) ≡ optional op_bytes (undo_of k a)
unfolding op_bytes
adds k (Added amount) given fits is back =
    ap (λ (b : List ℕ). (1 ∷ 5 ∷ []) ++ (text k ++ b)) (back amount fits refl)
adds k Inserted given fits is back = absurd (cc)
adds k (Updated value) given fits is back = absurd (cc)
adds k (Was None) given fits is back = absurd (cc)
adds k (Was (Some value)) given fits is back = absurd (cc)
adds k (Deleted value) given fits is back = absurd (cc)
adds k Exists given fits is back = absurd (cc)
adds k NoRecord given fits is back = absurd (cc)
adds k NotNumber given fits is back = absurd (cc)

-- no other kind is undone
record IsIdleKind (n : ℕ) : Type 0 where
  deletes : n ≢ 1
  deletes_too : n ≢ 3
  updates : n ≢ 2
  updates_too : n ≢ 4
  inserts : n ≢ 5
  adds : n ≢ 9

undoes_none : (k : Bytes) (a : Answer) → IsIdleKind (kind_of a) → (0 ∷ []) ≡ optional op_bytes (undo_of k a)
undoes_none k Exists h = refl
undoes_none k NoRecord h = refl
undoes_none k NotNumber h = refl
undoes_none k Inserted h = absurd (h.deletes refl)
undoes_none k (Updated value) h = absurd (h.updates refl)
undoes_none k (Was None) h = absurd (h.deletes_too refl)
undoes_none k (Was (Some value)) h = absurd (h.updates_too refl)
undoes_none k (Deleted value) h = absurd (h.inserts refl)
undoes_none k (Added amount) h = absurd (h.adds refl)

-- of the bytes of an answer, which begin with this kind
module _ (a : Answer) (answer : List ℕ) (n : ℕ) (old : List ℕ) (begins : answer ≡ n ∷ old)
    (spells : answer ≡ answer_bytes a) where
  both : n ∷ old ≡ kind_of a ∷ answer_fields a
  both = sym begins ∙ spells ∙ answer_spelled a

  kind_is : n ≡ kind_of a
  kind_is = cc both

  old_is : old ≡ answer_fields a
  old_is = cc both

  pub deleted : (k : Bytes) → (n ≡ 1) ⊎ (n ≡ 3) → (1 ∷ 4 ∷ []) ++ (text k ++ []) ≡ optional op_bytes (undo_of k a)
  deleted k is = deletes k a (rw (← kind_is) is)

  pub updated : (k : Bytes) → (n ≡ 2) ⊎ (n ≡ 4) → (1 ∷ 2 ∷ []) ++ (text k ++ old) ≡ optional op_bytes (undo_of k a)
  updated k is = ap (λ (b : List ℕ). (1 ∷ 2 ∷ []) ++ (text k ++ b)) old_is ∙ updates k a (rw (← kind_is) is)

  pub inserted : (k : Bytes) → n ≡ 5 → (1 ∷ 1 ∷ []) ++ (text k ++ old) ≡ optional op_bytes (undo_of k a)
  inserted k is = ap (λ (b : List ℕ). (1 ∷ 1 ∷ []) ++ (text k ++ b)) old_is ∙ inserts k a (sym kind_is ∙ is)

  pub added : (k : Bytes) (given : List ℕ) → IsAnswer a → n ≡ 9 → TakesBack old given
      → (1 ∷ 5 ∷ []) ++ (text k ++ given) ≡ optional op_bytes (undo_of k a)
  added k given fits is back = adds k a given fits (sym kind_is ∙ is) (λ x amount e. back x amount (old_is ∙ e))

  pub not_undone : (k : Bytes) → n ≢ 1 → n ≢ 3 → n ≢ 2 → n ≢ 4 → n ≢ 5 → n ≢ 9
      → (0 ∷ []) ≡ optional op_bytes (undo_of k a)
  not_undone k one three two four five nine = undoes_none k a (record {
    deletes = λ e. one (kind_is ∙ e);
    deletes_too = λ e. three (kind_is ∙ e);
    updates = λ e. two (kind_is ∙ e);
    updates_too = λ e. four (kind_is ∙ e);
    inserts = λ e. five (kind_is ∙ e);
    adds = λ e. nine (kind_is ∙ e);
  })

-- an answer has a kind
pub some_answer : (a : Answer) (answer : List ℕ) → answer ≡ answer_bytes a → length answer ≡ 0 → ⊥
some_answer a answer is none = omega (arith, ap length (is ∙ answer_spelled a), none)

-- an amount is read again
pub amount_read : (amount : List ℕ) (x : ℕ) → IsAmount x → amount ≡ number x → first (count_at amount) ≡ Some x
amount_read amount x fits is =
    ap (λ (b : List ℕ). first (count_at b)) (is ∙ sym (append-nil (number x)))
    ∙ ap first (count_reads.again x [] fits)

-- ---- the kinds that are undone

below_six : (k : Bytes) (a : Answer) → kind_of a < 6 → nat_lt (kind_of a) 6 ≡ is_some (undo_of k a)
below_six k Inserted less = refl
below_six k (Updated value) less = refl
below_six k (Was None) less = refl
below_six k (Was (Some value)) less = refl
below_six k (Deleted value) less = refl
below_six k Exists less = absurd (omega (arith, less))
below_six k NoRecord less = absurd (omega (arith, less))
below_six k NotNumber less = absurd (omega (arith, less))
below_six k (Added amount) less = absurd (omega (arith, less))

above_eight : (k : Bytes) (a : Answer) → 6 ≤ kind_of a → nat_lt 8 (kind_of a) ≡ is_some (undo_of k a)
above_eight k Exists least = refl
above_eight k NoRecord least = refl
above_eight k NotNumber least = refl
above_eight k (Added amount) least = refl
above_eight k Inserted least = absurd (omega (arith, least))
above_eight k (Updated value) least = absurd (omega (arith, least))
above_eight k (Was None) least = absurd (omega (arith, least))
above_eight k (Was (Some value)) least = absurd (omega (arith, least))
above_eight k (Deleted value) least = absurd (omega (arith, least))

module _ (k : Bytes) (a : Answer) (answer : List ℕ) (n : ℕ) (old : List ℕ) (begins : answer ≡ n ∷ old)
    (spells : answer ≡ answer_bytes a) where
  same_kind : n ≡ kind_of a
  same_kind = kind_is a answer n old begins spells

  pub undone_below : n < 6 → nat_lt n 6 ≡ is_some (undo_of k a)
  undone_below less =
      ap (λ (m : ℕ). nat_lt m 6) same_kind ∙ below_six k a (omega (arith, same_kind, less))

  pub undone_above : 6 ≤ n → nat_lt 8 n ≡ is_some (undo_of k a)
  undone_above least =
      ap (λ (m : ℕ). nat_lt 8 m) same_kind ∙ above_eight k a (omega (arith, same_kind, least))

-- ---- the bytes of an answer, behind an Answer record's number

answer_behind : (r : Record) → kind r ≡ 4 → Some (drop 8 (fields r)) ≡ option_map answer_bytes (answer_held r)
answer_behind (is.Answer of a) answer = ap Some (drop_at (number of) (answer_bytes a) 8 (length-number of))
answer_behind is.Session answer = absurd (cc)
answer_behind is.Begin answer = absurd (cc)
answer_behind (is.Op txn prev o) answer = absurd (cc)
answer_behind (is.Comp txn undoes next inverse) answer = absurd (cc)
answer_behind (is.Commit txn) answer = absurd (cc)
answer_behind (is.End txn) answer = absurd (cc)
answer_behind (is.Checkpoint low) answer = absurd (cc)

none_held : (r : Record) → kind r ≢ 4 → None ≡ option_map answer_bytes (answer_held r)
none_held (is.Answer of a) other = absurd (other refl)
none_held is.Session other = refl
none_held is.Begin other = refl
none_held (is.Op txn prev o) other = refl
none_held (is.Comp txn undoes next inverse) other = refl
none_held (is.Commit txn) other = refl
none_held (is.End txn) other = refl
none_held (is.Checkpoint low) other = refl

-- of a body that begins with this kind
module _ (r : Record) (body : List ℕ) (n : ℕ) (tail : List ℕ) (begins : body ≡ n ∷ tail) (stands : body ≡ record_bytes r) where
  whole : IsSplit r n tail
  whole = split r body n tail begins stands

  pub answer_told : n ≡ 4 → Some (drop 8 tail) ≡ option_map answer_bytes (answer_held r)
  answer_told answer = ap (λ (b : List ℕ). Some (drop 8 b)) whole.tail_is ∙ answer_behind r (sym whole.kind_is ∙ answer)

  pub no_answer_told : n ≢ 4 → None ≡ option_map answer_bytes (answer_held r)
  no_answer_told other = none_held r (λ is. other (whole.kind_is ∙ is))

-- ---- the frame of a Comp record

-- it is that of the record, where the inverse is spelled so
pub comp_spelled : {T : Type 0} (result : Result T Refusal) (new old tail : List ℕ) (n : CompNumbers) (i : Option Op)
    → OnOk result (new ≡ old ++ frame (comp_bytes n tail)) → tail ≡ optional op_bytes i
    → OnOk result (new ≡ old ++ frame (record_bytes (is.Comp n.txn n.undoes n.next i)))
unfolding record_bytes
comp_spelled (Ok x) new old tail n i is same =
    is ∙ ap (λ (b : List ℕ). old ++ frame (comp_bytes n b)) same
comp_spelled (Err refusal) new old tail n i is same = tt
