-- Replies: what is read is spelled so, and what has a spelling is read again.
use Rattle.std.proofs.Common.{◌≡◌, ℕ, ◌+◌, ◌<◌, ◌^◌, true, List, ◌++◌, length, drop, length-drop, length-append, Option, Some, refl, ap, subst, arith}
use Rattle.std.specs.Prelude.{IfSome}
use Rattle.record_key.specs.Table.{Bytes}
use Rattle.record_key.specs.Rows.{Row}
use Rattle.record_key.specs.declared.op.Answer.{Answer}
use Rattle.codec.specs.declared.reply.Reply.{Reply}
use Rattle.codec.specs.declared.reply.Reply.TheVariants as is
use Rattle.codec.specs.Fields.{number, IsNumber, text, IsValue, optional, answer_bytes, IsAnswer}
use Rattle.codec.specs.Rows.{rows_bytes, AreRows}
use Rattle.codec.specs.Frames.{frame, any_length, HasKind, IsFrameOf}
use Rattle.codec.specs.Replies.{reply_bytes, has_rows, IsReply}
use Rattle.codec.specs.Reading.{pair, number_at, rows_at, optional_at, value_at, answer_at, reply_choices, reply_at, frame_at, within}
use Rattle.codec.specs.declared.taken.Taken.TheVariants as took
use Rattle.codec.proofs.Frames as frames
use Rattle.codec.proofs.Frames.{body_there}
use Rattle.codec.proofs.Readers.{IsReader, both, made_again, choice, one_of_takes}
use Rattle.codec.proofs.Fields.{number_reads, optional_reads, value_reads, answer_reads}
use Rattle.codec.proofs.Lists.{numbers_read, rows_read}

answered_reads : IsReader (ℕ × (ℕ × Option Answer)) (λ p. number p.0 ++ (number p.1.0 ++ optional answer_bytes p.1.1))
    (λ p. IsNumber p.0 × (IsNumber p.1.0 × IfSome p.1.1 IsAnswer))
    (pair number_at (pair number_at (optional_at answer_at)))
answered_reads = both number_reads
    (both number_reads (optional_reads Answer answer_bytes IsAnswer answer_at answer_reads))

found_reads : IsReader (ℕ × (ℕ × Option Bytes)) (λ p. number p.0 ++ (number p.1.0 ++ optional text p.1.1))
    (λ p. IsNumber p.0 × (IsNumber p.1.0 × IfSome p.1.1 IsValue))
    (pair number_at (pair number_at (optional_at value_at)))
found_reads = both number_reads (both number_reads (optional_reads Bytes text IsValue value_at value_reads))

listed_reads : IsReader (ℕ × (ℕ × List Row)) (λ p. number p.0 ++ (number p.1.0 ++ rows_bytes p.1.1))
    (λ p. IsNumber p.0 × (IsNumber p.1.0 × AreRows p.1.1)) (pair number_at (pair number_at rows_at))
listed_reads = both number_reads (both number_reads rows_read)

reply_again : (r : Reply) (rest : List ℕ) → IsReply r → reply_at (reply_bytes r ++ rest) ≡ Some (r, rest)
unfolding reply_bytes reply_at
reply_again (is.Connected session) rest fits = made_again number_reads (λ n. is.Connected n) session rest fits
reply_again (is.Answered session n a) rest fits =
    made_again answered_reads (λ p. is.Answered p.0 p.1.0 p.1.1) (session, (n, a)) rest fits
reply_again (is.Row session read value) rest fits =
    made_again found_reads (λ p. is.Row p.0 p.1.0 p.1.1) (session, (read, value)) rest fits
reply_again (is.Rows session read rows) rest fits =
    made_again listed_reads (λ p. is.Rows p.0 p.1.0 p.1.1) (session, (read, rows)) rest fits
reply_again (is.Checkpointed session low) rest fits =
    made_again numbers_read (λ p. is.Checkpointed p.0 p.1) (session, low) rest fits
reply_again (is.RedoEnded session) rest fits = made_again number_reads (λ n. is.RedoEnded n) session rest fits

pub reply_reads : IsReader Reply reply_bytes IsReply reply_at
unfolding reply_bytes reply_at
reply_reads = record {
  takes = one_of_takes Reply reply_bytes IsReply reply_choices (
    choice number_reads Reply reply_bytes IsReply 17 (λ n. is.Connected n) (λ n. refl) (λ n has. has),
    (
      choice answered_reads Reply reply_bytes IsReply 18 (λ p. is.Answered p.0 p.1.0 p.1.1) (λ p. refl) (λ p has. has),
      (
        choice found_reads Reply reply_bytes IsReply 19 (λ p. is.Row p.0 p.1.0 p.1.1) (λ p. refl) (λ p has. has),
        (
          choice listed_reads Reply reply_bytes IsReply 20 (λ p. is.Rows p.0 p.1.0 p.1.1) (λ p. refl) (λ p has. has),
          (
            choice numbers_read Reply reply_bytes IsReply 21 (λ p. is.Checkpointed p.0 p.1) (λ p. refl) (λ p has. has),
            (
              choice number_reads Reply reply_bytes IsReply 22 (λ n. is.RedoEnded n) (λ n. refl) (λ n has. has),
              tt,
            ),
          ),
        ),
      ),
    ),
  );
  again = reply_again;
}

pub reply_not_empty : (r : Reply) → 0 < length (reply_bytes r)
unfolding reply_bytes
reply_not_empty (is.Connected session) = omega arith
reply_not_empty (is.Answered session n a) = omega arith
reply_not_empty (is.Row session read value) = omega arith
reply_not_empty (is.Rows session read rows) = omega arith
reply_not_empty (is.Checkpointed session low) = omega arith
reply_not_empty (is.RedoEnded session) = omega arith

-- a reply's frame is taken, whatever follows it
pub reply_taken : (place : ℕ) (left : List ℕ) (r : Reply) (rest : List ℕ) → IsReply r → length (reply_bytes r) < 2 ^ 64
    → left ≡ frame (reply_bytes r) ++ rest
    → within place reply_at (frame_at any_length place left) ≡ took.Record r (place + length (frame (reply_bytes r)))
reply_taken place left r rest fits short e =
    frames.only Reply reply_bytes IsReply reply_at reply_reads any_length place left r rest fits (reply_not_empty r)
    (omega (arith, short)) (omega arith) e

-- and so is its body: a slice has less than 2 to the power of 64 bytes, and so has what stands in it
pub reply_framed : (r : Reply) (at : ℕ) (bytes rest : List ℕ) → length bytes < 2 ^ 64
    → drop at bytes ≡ frame (reply_bytes r) ++ rest
    → frame_at any_length at (drop at bytes) ≡ took.Record (reply_bytes r) (at + length (frame (reply_bytes r)))
reply_framed r at bytes rest there e =
    frames.framed any_length at (reply_bytes r) (drop at bytes) rest (reply_not_empty r)
    (omega (
      arith,
      there,
      length-drop at bytes,
      ap length e,
      length-append (frame (reply_bytes r)) rest,
      frames.length-frame (reply_bytes r),
    ))
    (omega arith) e

-- only rows have their kind
kind_of_rows : (r : Reply) → HasKind 20 (reply_bytes r) → has_rows r ≡ true
unfolding reply_bytes
kind_of_rows (is.Connected s) h = absurd (omega (arith, h))
kind_of_rows (is.Answered s n a) h = absurd (omega (arith, h))
kind_of_rows (is.Row s n v) h = absurd (omega (arith, h))
kind_of_rows (is.Rows s n rows) h = refl
kind_of_rows (is.Checkpointed s l) h = absurd (omega (arith, h))
kind_of_rows (is.RedoEnded s) h = absurd (omega (arith, h))

-- a reply whose frame has that kind has rows
pub rows_framed : (left : List ℕ) (r : Reply) (rest : List ℕ) → length (reply_bytes r) < 2 ^ 64
    → left ≡ frame (reply_bytes r) ++ rest
    → IsFrameOf any_length (HasKind 20) left → has_rows r ≡ true
rows_framed left r rest short e h =
    kind_of_rows r (subst (HasKind 20) (body_there (reply_bytes r) left rest short e) h.body)
