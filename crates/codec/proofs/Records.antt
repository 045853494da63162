-- Records of the transaction log: what is read is spelled so, what has a spelling is read again, and how long a body
-- is.
use Rattle.std.proofs.Common.{◌≡◌, ℕ, ◌<◌, ◌≤◌, List, [], ◌∷◌, ◌++◌, length, Option, Some, refl, arith}
use Rattle.std.specs.Prelude.{IfSome}
use Rattle.history.specs.declared.record.Record.{Record}
use Rattle.history.specs.declared.record.Record.TheVariants as is
use Rattle.record_key.specs.declared.op.Op.{Op}
use Rattle.record_key.specs.declared.op.Answer.{Answer}
use Rattle.codec.specs.Fields.{number, IsNumber, optional, op_bytes, IsOp, answer_bytes, IsAnswer}
use Rattle.codec.specs.Records.{record_bytes, IsRecord}
use Rattle.codec.specs.Reading.{Reader, fixed, pair, mapped, number_at, optional_at, op_at, answer_at, record_at}
use Rattle.codec.proofs.Readers.{IsReader, pair_reads, mapped_again, IsChoice, fixed_choice, mapped_choice, one_of_takes}
use Rattle.codec.proofs.Fields.{length-number, numbers_length, number_reads, optional_reads, op_reads, optional_length, op_length, answer_reads, answer_length}

-- ---- what follows each kind

abbrev OpFields : Type 0
OpFields = ℕ × (ℕ × Op)

abbrev op_fields : OpFields → List ℕ
op_fields p = number p.0 ++ (number p.1.0 ++ op_bytes p.1.1)

abbrev AreOpFields : OpFields → Type 0
AreOpFields p = IsNumber p.0 × (IsNumber p.1.0 × IsOp p.1.1)

abbrev op_fields_at : Reader OpFields
op_fields_at = pair number_at (pair number_at op_at)

op_fields_read : IsReader OpFields op_fields AreOpFields op_fields_at
op_fields_read = pair_reads ℕ (ℕ × Op) number IsNumber number_at (λ p. number p.0 ++ op_bytes p.1)
    (λ p. IsNumber p.0 × IsOp p.1) (pair number_at op_at) number_reads
    (pair_reads ℕ Op number IsNumber number_at op_bytes IsOp op_at number_reads op_reads)

abbrev AnswerFields : Type 0
AnswerFields = ℕ × Answer

abbrev answer_fields : AnswerFields → List ℕ
answer_fields p = number p.0 ++ answer_bytes p.1

abbrev AreAnswerFields : AnswerFields → Type 0
AreAnswerFields p = IsNumber p.0 × IsAnswer p.1

answer_fields_read : IsReader AnswerFields answer_fields AreAnswerFields (pair number_at answer_at)
answer_fields_read = pair_reads ℕ Answer number IsNumber number_at answer_bytes IsAnswer answer_at number_reads
    answer_reads

abbrev CompFields : Type 0
CompFields = ℕ × (ℕ × (ℕ × Option Op))

abbrev comp_fields : CompFields → List ℕ
comp_fields p = number p.0 ++ (number p.1.0 ++ (number p.1.1.0 ++ optional op_bytes p.1.1.1))

abbrev AreCompFields : CompFields → Type 0
AreCompFields p = IsNumber p.0 × (IsNumber p.1.0 × (IsNumber p.1.1.0 × IfSome p.1.1.1 IsOp))

abbrev comp_fields_at : Reader CompFields
comp_fields_at = pair number_at (pair number_at (pair number_at (optional_at op_at)))

comp_fields_read : IsReader CompFields comp_fields AreCompFields comp_fields_at
comp_fields_read =
    let one = pair_reads ℕ (Option Op) number IsNumber number_at (optional op_bytes) (λ o. IfSome o IsOp)
    (optional_at op_at) number_reads (optional_reads Op op_bytes IsOp op_at op_reads) in
    let two = pair_reads ℕ (ℕ × Option Op) number IsNumber number_at (λ p. number p.0 ++ optional op_bytes p.1)
    (λ p. IsNumber p.0 × IfSome p.1 IsOp) (pair number_at (optional_at op_at)) number_reads one in
    pair_reads ℕ (ℕ × (ℕ × Option Op)) number IsNumber number_at
    (λ p. number p.0 ++ (number p.1.0 ++ optional op_bytes p.1.1))
    (λ p. IsNumber p.0 × (IsNumber p.1.0 × IfSome p.1.1 IsOp)) (pair number_at (pair number_at (optional_at op_at)))
    number_reads two

-- ---- records

number_again : (make : ℕ → Record) (n : ℕ) (rest : List ℕ) → IsNumber n
    → mapped make number_at (number n ++ rest) ≡ Some (make n, rest)
number_again make n rest fits = mapped_again ℕ Record number IsNumber number_at number_reads make n rest fits

record_again : (r : Record) (rest : List ℕ) → IsRecord r → record_at (record_bytes r ++ rest) ≡ Some (r, rest)
unfolding record_bytes record_at
record_again is.Session rest fits = refl
record_again is.Begin rest fits = refl
record_again (is.Op txn prev o) rest fits =
    mapped_again OpFields Record op_fields AreOpFields op_fields_at op_fields_read (λ p. is.Op p.0 p.1.0 p.1.1)
    (txn, (prev, o)) rest fits
record_again (is.Answer of a) rest fits =
    mapped_again AnswerFields Record answer_fields AreAnswerFields (pair number_at answer_at) answer_fields_read
    (λ p. is.Answer p.0 p.1) (of, a) rest fits
record_again (is.Comp txn undoes next inverse) rest fits =
    mapped_again CompFields Record comp_fields AreCompFields comp_fields_at comp_fields_read
    (λ p. is.Comp p.0 p.1.0 p.1.1.0 p.1.1.1) (txn, (undoes, (next, inverse))) rest fits
record_again (is.Commit txn) rest fits = number_again (λ n. is.Commit n) txn rest fits
record_again (is.End txn) rest fits = number_again (λ n. is.End n) txn rest fits
record_again (is.Checkpoint low) rest fits = number_again (λ n. is.Checkpoint n) low rest fits

number_choice : (kind : ℕ) (make : ℕ → Record) → ((n : ℕ) → record_bytes (make n) ≡ kind ∷ number n)
    → ((n : ℕ) → IsNumber n → IsRecord (make n)) → IsChoice Record record_bytes IsRecord (kind, mapped make number_at)
number_choice kind make is_spelled has =
    mapped_choice ℕ Record number IsNumber number_at record_bytes IsRecord number_reads kind make is_spelled has

pub record_reads : IsReader Record record_bytes IsRecord record_at
unfolding record_bytes record_at
record_reads = record {
  takes = one_of_takes Record record_bytes IsRecord
      ((1, fixed is.Session) ∷ (2, fixed is.Begin) ∷ (3, mapped (λ p. is.Op p.0 p.1.0 p.1.1) op_fields_at)
      ∷ (4, mapped (λ p. is.Answer p.0 p.1) (pair number_at answer_at))
      ∷ (5, mapped (λ p. is.Comp p.0 p.1.0 p.1.1.0 p.1.1.1) comp_fields_at) ∷ (6, mapped (λ n. is.Commit n) number_at)
      ∷ (7, mapped (λ n. is.End n) number_at) ∷ (8, mapped (λ n. is.Checkpoint n) number_at) ∷ []) (
        fixed_choice Record record_bytes IsRecord 1 is.Session refl tt,
        (
          fixed_choice Record record_bytes IsRecord 2 is.Begin refl tt,
          (
            mapped_choice OpFields Record op_fields AreOpFields op_fields_at record_bytes IsRecord op_fields_read 3
                (λ p. is.Op p.0 p.1.0 p.1.1) (λ p. refl) (λ p has. has),
            (
              mapped_choice AnswerFields Record answer_fields AreAnswerFields (pair number_at answer_at) record_bytes
                  IsRecord answer_fields_read 4 (λ p. is.Answer p.0 p.1) (λ p. refl) (λ p has. has),
              (
                mapped_choice CompFields Record comp_fields AreCompFields comp_fields_at record_bytes IsRecord
                    comp_fields_read 5 (λ p. is.Comp p.0 p.1.0 p.1.1.0 p.1.1.1) (λ p. refl) (λ p has. has),
                (
                  number_choice 6 (λ n. is.Commit n) (λ n. refl) (λ n has. has),
                  (
                    number_choice 7 (λ n. is.End n) (λ n. refl) (λ n has. has),
                    (
                      number_choice 8 (λ n. is.Checkpoint n) (λ n. refl) (λ n has. has),
                      tt,
                    ),
                  ),
                ),
              ),
            ),
          ),
        ),
      );
  again = record_again;
}

-- ---- the length of a body

abbrev FitsFrame : List ℕ → Type 0
FitsFrame body = (0 < length body) × (length body ≤ 181)

pub record_length : (r : Record) → IsRecord r → FitsFrame (record_bytes r)
unfolding record_bytes
record_length is.Session fits = (omega arith, omega arith)
record_length is.Begin fits = (omega arith, omega arith)
record_length (is.Op txn prev o) fits =
    let len = numbers_length txn (number prev ++ op_bytes o) in
    let len2 = numbers_length prev (op_bytes o) in
    let most = op_length o fits.1.1 in
    (omega arith, omega arith)
record_length (is.Answer of a) fits =
    let len = numbers_length of (answer_bytes a) in
    let most = answer_length a fits.1 in
    (omega arith, omega arith)
record_length (is.Comp txn undoes next inverse) fits =
    let len = numbers_length txn (number undoes ++ (number next ++ optional op_bytes inverse)) in
    let len2 = numbers_length undoes (number next ++ optional op_bytes inverse) in
    let len3 = numbers_length next (optional op_bytes inverse) in
    let most = optional_length op_bytes IsOp 155 op_length inverse fits.1.1.1 in
    (omega arith, omega arith)
record_length (is.Commit txn) fits = let len = length-number txn in (omega arith, omega arith)
record_length (is.End txn) fits = let len = length-number txn in (omega arith, omega arith)
record_length (is.Checkpoint low) fits = let len = length-number low in (omega arith, omega arith)
