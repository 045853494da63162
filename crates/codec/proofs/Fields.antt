-- Each part of a message: what is read is spelled so, and what has a spelling is read again.
use Rattle.std.proofs.Common.{◌≡◌, ℕ, suc, ◌^◌, ◌<◌, ◌≤◌, ◌+◌, Bool, true, false, cond, ltb, List, [], ◌∷◌, ◌++◌, length, take, drop, Option, Some, None, refl, sym, ap, subst, ◌∙◌, arith}
use Rattle.std.specs.Prelude.{IfSome}
use Rattle.std.specs.Int.{w64, from_be_bytes}
use Rattle.std.proofs.lemmas.Bool.{ltb-false, ltb-true, lt-ltb, le-ltb}
use Rattle.std.proofs.lemmas.List.{take_at, drop_at, take-append-drop, length-append, length-take}
use Rattle.std.proofs.lemmas.Nat.{be_bytes_8}
use Rattle.std.proofs.lemmas.Option.{same_Some, cond_some}
use Rattle.byteorder.specs.Endian.{big_number}
use Rattle.byteorder.specs.Numbers.{big_from-take, big_number-reads_back}
use Rattle.record_key.specs.Table.{Bytes}
use Rattle.record_key.specs.declared.op.Op.{Op}
use Rattle.record_key.specs.declared.op.Op.TheVariants.{Insert, Update, Upsert, Delete, Add}
use Rattle.record_key.specs.declared.op.Answer.{Answer}
use Rattle.record_key.specs.declared.op.Answer.TheVariants.{Inserted, Updated, Was, Deleted, Exists, NoRecord, NotNumber, Added}
use Rattle.codec.specs.Fields.{number, first_number, IsNumber, IsAmount, text, HasLength, IsKey, IsValue, flag, optional, op_bytes, IsOp, answer_bytes, IsAnswer}
use Rattle.codec.specs.Reading.{Reader, fixed, pair, mapped, below_at, number_at, count_at, bytes_at, text_at, key_at, value_at, row_at, flag_at, optional_at, op_at, answer_at}
use Rattle.codec.proofs.Readers.{IsBytes, IsBytes-drop, IsBytes-take, Takes, Takes-then, IsReader, bind_some, guard_none, pair_reads, mapped_again, IsChoice, fixed_choice, mapped_choice, one_of_takes}

-- ---- numbers

pub length-number : (n : ℕ) → length (number n) ≡ 8
unfolding number
length-number n = refl

pub numbers_length : (n : ℕ) (rest : List ℕ) → length (number n ++ rest) ≡ 8 + length rest
numbers_length n rest = omega (arith, length-append (number n) rest, length-number n)

same_reading : (bytes : List ℕ) → big_number 8 bytes ≡ from_be_bytes w64 bytes
same_reading bytes = omega arith

-- the first eight bytes are the spelling of their number
pub number_in_front : (bytes : List ℕ) → IsBytes bytes → 8 ≤ length bytes → number (first_number bytes) ≡ take 8 bytes
unfolding number first_number
number_in_front bytes fits long =
    let front : big_number 8 bytes ≡ from_be_bytes w64 (take 8 bytes) =
    sym (big_from-take 0 8 8 bytes (omega arith)) ∙ same_reading (take 8 bytes) in
    be_bytes_8 (take 8 bytes) (big_number 8 bytes) (omega (arith, length-take 8 bytes)) (IsBytes-take 8 bytes fits)
    front

-- the number that was written in front, whatever follows
pub first_number-number : (n : ℕ) (rest : List ℕ) → n < 2 ^ 64 → first_number (number n ++ rest) ≡ n
unfolding number first_number
first_number-number n rest lt = big_number-reads_back 8 n rest lt

below_reads : (bound : ℕ) → bound ≤ 2 ^ 64 → IsReader ℕ number (λ n. n < bound) (below_at bound)
unfolding below_at
below_reads bound small = record {
  takes = λ bytes x fits e.
      let g = guard_none (ltb (length bytes) 8)
      (cond (ltb (first_number bytes) bound) (Some (first_number bytes, drop 8 bytes)) None) x e in
      let h = cond_some (ltb (first_number bytes) bound) (first_number bytes, drop 8 bytes) x g.1 in
      let long : 8 ≤ length bytes = ltb-false _ _ g.0 in
      let below : first_number bytes < bound = ltb-true _ _ h.0 in
      subst (λ (z : ℕ × List ℕ). Takes bytes (number z.0) z.1 × (z.0 < bound)) h.1 (
        record {
          parts = rw (number_in_front bytes fits long) (sym (take-append-drop 8 bytes));
          rest_fits = IsBytes-drop 8 bytes fits;
        },
        below,
      );
  again = λ n rest lt.
      let long : ltb (length (number n ++ rest)) 8 ≡ false =
      le-ltb _ _ (omega (arith, length-append (number n) rest, length-number n)) in
      let low : ltb n bound ≡ true = lt-ltb _ _ lt in
      let fits : n < 2 ^ 64 = omega arith in
      rw (long, first_number-number n rest fits, low, drop_at (number n) rest 8 (length-number n)) refl;
}

pub number_reads : IsReader ℕ number IsNumber number_at
number_reads = below_reads (2 ^ 48) (omega arith)

pub count_reads : IsReader ℕ number (λ n. n < 2 ^ 64) count_at
count_reads = below_reads (2 ^ 64) (omega arith)

-- ---- texts

bytes_takes : (bytes : List ℕ) (x : Bytes × List ℕ) → IsBytes bytes → bytes_at bytes ≡ Some x
    → Takes bytes (text x.0) x.1
unfolding bytes_at
bytes_takes [] x fits e = absurd cc
bytes_takes (n ∷ rest) x fits e =
    let g = guard_none (ltb (length rest) n) (Some (take n rest, drop n rest)) x e in
    let long : n ≤ length rest = ltb-false _ _ g.0 in
    let len : length (take n rest) ≡ n = omega (arith, length-take n rest) in
    let rest_fits : IsBytes rest = λ i. fits (suc i) in
    let made : Bytes × List ℕ = (take n rest, drop n rest) in
    subst (λ (z : Bytes × List ℕ). Takes (n ∷ rest) (text z.0) z.1) (same_Some made x g.1)
    (record {
      parts = rw len (ap (λ (w : List ℕ). n ∷ w) (sym (take-append-drop n rest)));
      rest_fits = IsBytes-drop n rest rest_fits;
    })

bytes_again : (t : Bytes) (rest : List ℕ) → bytes_at (text t ++ rest) ≡ Some (t, rest)
unfolding bytes_at
bytes_again t rest =
    let long : ltb (length (t ++ rest)) (length t) ≡ false = le-ltb _ _ (omega (arith, length-append t rest)) in
    rw (long, take_at t rest (length t) refl, drop_at t rest (length t) refl) refl

pub text_reads : (low high : ℕ) → IsReader Bytes text (HasLength low high) (text_at low high)
text_reads low high = record {
  takes = λ bytes x fits e.
      let a = bind_some (bytes_at bytes)
      (λ t. cond (ltb (length t.0) low) None (cond (ltb high (length t.0)) None (Some t))) x e in
      let g = guard_none (ltb (length a.0.0) low) (cond (ltb high (length a.0.0)) None (Some a.0)) x a.2 in
      let h = guard_none (ltb high (length a.0.0)) (Some a.0) x g.1 in
      let above : low ≤ length a.0.0 = ltb-false _ _ g.0 in
      let below : length a.0.0 ≤ high = ltb-false _ _ h.0 in
      subst (λ (z : Bytes × List ℕ). Takes bytes (text z.0) z.1 × HasLength low high z.0) (same_Some a.0 x h.1)
      (bytes_takes bytes a.0 fits a.1, (above, below));
  again = λ t rest fits.
      let above : ltb (length t) low ≡ false = le-ltb _ _ fits.0 in
      let below : ltb high (length t) ≡ false = le-ltb _ _ fits.1 in
      rw (bytes_again t rest, above, below) refl;
}

pub key_reads : IsReader Bytes text IsKey key_at
unfolding key_at
key_reads = text_reads 1 32

pub value_reads : IsReader Bytes text IsValue value_at
unfolding value_at
value_reads = text_reads 0 120

pub row_reads : IsReader (Bytes × Bytes) (λ r. text r.0 ++ text r.1) (λ r. IsKey r.0 × IsValue r.1) row_at
row_reads = pair_reads Bytes Bytes text IsKey key_at text IsValue value_at key_reads value_reads

-- ---- optional parts

flag_again : (b : Bool) (rest : List ℕ) → Unit {0} → flag_at (flag b ++ rest) ≡ Some (b, rest)
unfolding flag_at
flag_again false rest fits = refl
flag_again true rest fits = refl

flag_reads : IsReader Bool flag (λ b. Unit {0}) flag_at
unfolding flag_at
flag_reads = record {
  takes = one_of_takes Bool flag (λ b. Unit {0}) ((0, fixed false) ∷ (1, fixed true) ∷ []) (
    fixed_choice Bool flag (λ b. Unit {0}) 0 false refl tt,
    (
      fixed_choice Bool flag (λ b. Unit {0}) 1 true refl tt,
      tt,
    ),
  );
  again = flag_again;
}

optional_again : (X : Type 0) (spell : X → List ℕ) (Fits : X → Type 0) (read : Reader X) → IsReader X spell Fits read →
    (o : Option X) (rest : List ℕ) → IfSome o Fits → optional_at read (optional spell o ++ rest) ≡ Some (o, rest)
unfolding flag_at
optional_again X spell Fits read law None rest fits = refl
optional_again X spell Fits read law (Some x) rest fits =
    mapped_again X (Option X) spell Fits read law (λ x. Some x) x rest fits

-- what is read behind a flag
after_flag : (X : Type 0) (spell : X → List ℕ) (Fits : X → Type 0) (read : Reader X) → IsReader X spell Fits read →
    (b : Bool) (bytes rest : List ℕ) (x : Option X × List ℕ) → Takes bytes (flag b) rest
    → cond b (mapped (λ x. Some x) read rest) (Some (None, rest)) ≡ Some x
    → Takes bytes (optional spell x.0) x.1 × IfSome x.0 Fits
after_flag X spell Fits read law false bytes rest x front e =
    let made : Option X × List ℕ = (None, rest) in
    subst (λ (z : Option X × List ℕ). Takes bytes (optional spell z.0) z.1 × IfSome z.0 Fits) (same_Some made x e)
    (front, tt)
after_flag X spell Fits read law true bytes rest x front e =
    let a = bind_some (read rest) (λ y. Some (Some y.0, y.1)) x e in
    let t = law.takes rest a.0 front.rest_fits a.1 in
    let made : Option X × List ℕ = (Some a.0.0, a.0.1) in
    subst (λ (z : Option X × List ℕ). Takes bytes (optional spell z.0) z.1 × IfSome z.0 Fits) (same_Some made x a.2)
    (Takes-then bytes (flag true) rest (spell a.0.0) a.0.1 front t.0, t.1)

pub optional_reads : (X : Type 0) (spell : X → List ℕ) (Fits : X → Type 0) (read : Reader X)
    → IsReader X spell Fits read → IsReader (Option X) (optional spell) (λ o. IfSome o Fits) (optional_at read)
optional_reads X spell Fits read law = record {
  takes = λ bytes x fits e.
      let a = bind_some (flag_at bytes) (λ f. cond f.0 (mapped (λ x. Some x) read f.1) (Some (None, f.1))) x e in
      let t = flag_reads.takes bytes a.0 fits a.1 in
      after_flag X spell Fits read law a.0.0 bytes a.0.1 x t.0 a.2;
  again = optional_again X spell Fits read law;
}

-- ---- operations

abbrev row_text : Bytes × Bytes → List ℕ
row_text r = text r.0 ++ text r.1

abbrev IsRow : Bytes × Bytes → Type 0
IsRow r = IsKey r.0 × IsValue r.1

-- a key and an amount
abbrev sum_text : Bytes × ℕ → List ℕ
sum_text p = text p.0 ++ number p.1

abbrev IsSum : Bytes × ℕ → Type 0
IsSum p = IsKey p.0 × IsAmount p.1

sum_reads : IsReader (Bytes × ℕ) sum_text IsSum (pair key_at count_at)
sum_reads = pair_reads Bytes ℕ text IsKey key_at number IsAmount count_at key_reads count_reads

op_again : (o : Op) (rest : List ℕ) → IsOp o → op_at (op_bytes o ++ rest) ≡ Some (o, rest)
unfolding op_bytes op_at
op_again (Insert key value) rest fits =
    mapped_again (Bytes × Bytes) Op row_text IsRow row_at row_reads (λ p. Insert p.0 p.1) (key, value) rest fits
op_again (Update key value) rest fits =
    mapped_again (Bytes × Bytes) Op row_text IsRow row_at row_reads (λ p. Update p.0 p.1) (key, value) rest fits
op_again (Upsert key value) rest fits =
    mapped_again (Bytes × Bytes) Op row_text IsRow row_at row_reads (λ p. Upsert p.0 p.1) (key, value) rest fits
op_again (Delete key) rest fits = mapped_again Bytes Op text IsKey key_at key_reads (λ k. Delete k) key rest fits
op_again (Add key amount) rest fits =
    mapped_again (Bytes × ℕ) Op sum_text IsSum (pair key_at count_at) sum_reads (λ p. Add p.0 p.1) (key, amount) rest
    fits

row_choice : (kind : ℕ) (make : Bytes × Bytes → Op) → ((r : Bytes × Bytes) → op_bytes (make r) ≡ kind ∷ row_text r)
    → ((r : Bytes × Bytes) → IsRow r → IsOp (make r)) → IsChoice Op op_bytes IsOp (kind, mapped make row_at)
row_choice kind make is_spelled has =
    mapped_choice (Bytes × Bytes) Op row_text IsRow row_at op_bytes IsOp row_reads kind make is_spelled has

pub op_reads : IsReader Op op_bytes IsOp op_at
unfolding op_bytes op_at
op_reads = record {
  takes = one_of_takes Op op_bytes IsOp
      ((1, mapped (λ p. Insert p.0 p.1) row_at) ∷ (2, mapped (λ p. Update p.0 p.1) row_at)
      ∷ (3, mapped (λ p. Upsert p.0 p.1) row_at) ∷ (4, mapped (λ key. Delete key) key_at)
      ∷ (5, mapped (λ p. Add p.0 p.1) (pair key_at count_at)) ∷ []) (
        row_choice 1 (λ p. Insert p.0 p.1) (λ r. refl) (λ r has. has),
        (
          row_choice 2 (λ p. Update p.0 p.1) (λ r. refl) (λ r has. has),
          (
            row_choice 3 (λ p. Upsert p.0 p.1) (λ r. refl) (λ r has. has),
            (
              mapped_choice Bytes Op text IsKey key_at op_bytes IsOp key_reads 4 (λ key. Delete key) (λ key. refl)
                  (λ key has. has),
              (
                mapped_choice (Bytes × ℕ) Op sum_text IsSum (pair key_at count_at) op_bytes IsOp sum_reads 5
                    (λ p. Add p.0 p.1) (λ p. refl) (λ p has. has),
                tt,
              ),
            ),
          ),
        ),
      );
  again = op_again;
}

-- ---- answers

value_again : (make : Bytes → Answer) (value : Bytes) (rest : List ℕ) → IsValue value
    → mapped make value_at (text value ++ rest) ≡ Some (make value, rest)
value_again make value rest fits = mapped_again Bytes Answer text IsValue value_at value_reads make value rest fits

answer_again : (a : Answer) (rest : List ℕ) → IsAnswer a → answer_at (answer_bytes a ++ rest) ≡ Some (a, rest)
unfolding answer_bytes answer_at
answer_again Inserted rest fits = refl
answer_again (Updated value) rest fits = value_again (λ v. Updated v) value rest fits
answer_again (Was None) rest fits = refl
answer_again (Was (Some value)) rest fits = value_again (λ v. Was (Some v)) value rest fits
answer_again (Deleted value) rest fits = value_again (λ v. Deleted v) value rest fits
answer_again Exists rest fits = refl
answer_again NoRecord rest fits = refl
answer_again NotNumber rest fits = refl
answer_again (Added amount) rest fits =
    mapped_again ℕ Answer number IsAmount count_at count_reads (λ x. Added x) amount rest fits

value_choice : (kind : ℕ) (make : Bytes → Answer) → ((v : Bytes) → answer_bytes (make v) ≡ kind ∷ text v)
    → ((v : Bytes) → IsValue v → IsAnswer (make v)) → IsChoice Answer answer_bytes IsAnswer (kind, mapped make value_at)
value_choice kind make is_spelled has =
    mapped_choice Bytes Answer text IsValue value_at answer_bytes IsAnswer value_reads kind make is_spelled has

plain_choice : (kind : ℕ) (a : Answer) → answer_bytes a ≡ kind ∷ [] → IsAnswer a
    → IsChoice Answer answer_bytes IsAnswer (kind, fixed a)
plain_choice kind a is_spelled has = fixed_choice Answer answer_bytes IsAnswer kind a is_spelled has

pub answer_reads : IsReader Answer answer_bytes IsAnswer answer_at
unfolding answer_bytes answer_at
answer_reads = record {
  takes = one_of_takes Answer answer_bytes IsAnswer
      ((1, fixed Inserted) ∷ (2, mapped (λ v. Updated v) value_at) ∷ (3, fixed (Was None))
      ∷ (4, mapped (λ v. Was (Some v)) value_at) ∷ (5, mapped (λ v. Deleted v) value_at) ∷ (6, fixed Exists)
      ∷ (7, fixed NoRecord) ∷ (8, fixed NotNumber) ∷ (9, mapped (λ x. Added x) count_at) ∷ []) (
        plain_choice 1 Inserted refl tt,
        (
          value_choice 2 (λ v. Updated v) (λ v. refl) (λ v has. has),
          (
            plain_choice 3 (Was None) refl tt,
            (
              value_choice 4 (λ v. Was (Some v)) (λ v. refl) (λ v has. has),
              (
                value_choice 5 (λ v. Deleted v) (λ v. refl) (λ v has. has),
                (
                  plain_choice 6 Exists refl tt,
                  (
                    plain_choice 7 NoRecord refl tt,
                    (
                      plain_choice 8 NotNumber refl tt,
                      (
                        mapped_choice ℕ Answer number IsAmount count_at answer_bytes IsAnswer count_reads 9
                            (λ x. Added x) (λ x. refl) (λ x has. has),
                        tt,
                      ),
                    ),
                  ),
                ),
              ),
            ),
          ),
        ),
      );
  again = answer_again;
}

-- ---- lengths

pub optional_length : {X : Type 0} (spell : X → List ℕ) (Fits : X → Type 0) (most : ℕ)
    → ((x : X) → Fits x → length (spell x) ≤ most) →
    (o : Option X) → IfSome o Fits → length (optional spell o) ≤ 1 + most
optional_length spell Fits most bound None fits = omega arith
optional_length spell Fits most bound (Some x) fits = omega (arith, bound x fits)

pub op_length : (o : Op) → IsOp o → length (op_bytes o) ≤ 155
unfolding op_bytes
op_length (Insert key value) fits = omega (arith, length-append (text key) (text value), fits.0.1, fits.1.1)
op_length (Update key value) fits = omega (arith, length-append (text key) (text value), fits.0.1, fits.1.1)
op_length (Upsert key value) fits = omega (arith, length-append (text key) (text value), fits.0.1, fits.1.1)
op_length (Delete key) fits = omega (arith, fits.1)
op_length (Add key amount) fits =
    omega (arith, length-append (text key) (number amount), length-number amount, fits.0.1)

pub answer_length : (a : Answer) → IsAnswer a → length (answer_bytes a) ≤ 122
unfolding answer_bytes
answer_length Inserted fits = omega arith
answer_length (Updated value) fits = omega (arith, fits.1)
answer_length (Was None) fits = omega arith
answer_length (Was (Some value)) fits = omega (arith, fits.1)
answer_length (Deleted value) fits = omega (arith, fits.1)
answer_length Exists fits = omega arith
answer_length NoRecord fits = omega arith
answer_length NotNumber fits = omega arith
answer_length (Added amount) fits = omega (arith, length-number amount)
