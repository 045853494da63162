-- Requests: what is read is spelled so, what has a spelling is read again, and how long a body is.
use Rattle.std.proofs.Common.{◌≡◌, ℕ, ◌+◌, ◌<◌, ◌≤◌, List, [], ◌∷◌, ◌++◌, length, Option, Some, refl, arith}
use Rattle.std.specs.Prelude.{IfSome}
use Rattle.std.proofs.lemmas.List.{length-append}
use Rattle.record_key.specs.Table.{Bytes}
use Rattle.record_key.specs.declared.op.Op.{Op}
use Rattle.codec.specs.declared.request.Request.{Request}
use Rattle.codec.specs.declared.request.Request.TheVariants as is
use Rattle.codec.specs.Fields.{number, IsNumber, text, IsKey, optional, op_bytes, IsOp}
use Rattle.codec.specs.Frames.{frame, any_length}
use Rattle.codec.specs.Requests.{request_bytes, IsRequest}
use Rattle.codec.specs.Reading.{pair, mapped, number_at, optional_at, key_at, op_at, request_at, frame_at, within}
use Rattle.codec.specs.declared.taken.Taken.TheVariants as took
use Rattle.codec.proofs.Frames as frames
use Rattle.codec.proofs.Readers.{IsReader, both, made_again, choice, one_of_takes}
use Rattle.codec.proofs.Lists.{numbers_read}
use Rattle.codec.proofs.Fields.{length-number, numbers_length, number_reads, optional_reads, key_reads, op_reads, optional_length, op_length}

pub perform_reads : IsReader (ℕ × (ℕ × (ℕ × Op)))
    (λ p. number p.0 ++ (number p.1.0 ++ (number p.1.1.0 ++ op_bytes p.1.1.1)))
    (λ p. IsNumber p.0 × (IsNumber p.1.0 × (IsNumber p.1.1.0 × IsOp p.1.1.1)))
    (pair number_at (pair number_at (pair number_at op_at)))
perform_reads = both number_reads (both number_reads (both number_reads op_reads))

pub get_reads : IsReader (ℕ × (ℕ × Bytes)) (λ p. number p.0 ++ (number p.1.0 ++ text p.1.1))
    (λ p. IsNumber p.0 × (IsNumber p.1.0 × IsKey p.1.1)) (pair number_at (pair number_at key_at))
get_reads = both number_reads (both number_reads key_reads)

scan_reads : IsReader (ℕ × (ℕ × (Bytes × Option Bytes)))
    (λ p. number p.0 ++ (number p.1.0 ++ (text p.1.1.0 ++ optional text p.1.1.1)))
    (λ p. IsNumber p.0 × (IsNumber p.1.0 × (IsKey p.1.1.0 × IfSome p.1.1.1 IsKey)))
    (pair number_at (pair number_at (pair key_at (optional_at key_at))))
scan_reads = both number_reads (both number_reads (both key_reads (optional_reads Bytes text IsKey key_at key_reads)))

request_again : (r : Request) (rest : List ℕ) → IsRequest r → request_at (request_bytes r ++ rest) ≡ Some (r, rest)
unfolding request_bytes request_at
request_again (is.Connect session end) rest fits =
    made_again numbers_read (λ p. is.Connect p.0 p.1) (session, end) rest fits
request_again (is.Perform session n stable o) rest fits =
    made_again perform_reads (λ p. is.Perform p.0 p.1.0 p.1.1.0 p.1.1.1) (session, (n, (stable, o))) rest fits
request_again (is.Get session read key) rest fits =
    made_again get_reads (λ p. is.Get p.0 p.1.0 p.1.1) (session, (read, key)) rest fits
request_again (is.Scan session read low high) rest fits =
    made_again scan_reads (λ p. is.Scan p.0 p.1.0 p.1.1.0 p.1.1.1) (session, (read, (low, high))) rest fits
request_again (is.LowWater session low) rest fits =
    made_again numbers_read (λ p. is.LowWater p.0 p.1) (session, low) rest fits
request_again (is.Checkpoint session low) rest fits =
    made_again numbers_read (λ p. is.Checkpoint p.0 p.1) (session, low) rest fits
request_again (is.RedoEnd session) rest fits = made_again number_reads (λ n. is.RedoEnd n) session rest fits
request_again (is.StableEnd session stable) rest fits =
    made_again numbers_read (λ p. is.StableEnd p.0 p.1) (session, stable) rest fits

pub request_reads : IsReader Request request_bytes IsRequest request_at
unfolding request_bytes request_at
request_reads = record {
  takes = one_of_takes Request request_bytes IsRequest
      ((1, mapped (λ p. is.Connect p.0 p.1) (pair number_at number_at))
      ∷ (
        2,
        mapped (λ p. is.Perform p.0 p.1.0 p.1.1.0 p.1.1.1) (pair number_at (pair number_at (pair number_at op_at))),
      )
      ∷ (3, mapped (λ p. is.Get p.0 p.1.0 p.1.1) (pair number_at (pair number_at key_at)))
      ∷ (
        4,
        mapped (λ p. is.Scan p.0 p.1.0 p.1.1.0 p.1.1.1)
            (pair number_at (pair number_at (pair key_at (optional_at key_at)))),
      )
      ∷ (5, mapped (λ p. is.LowWater p.0 p.1) (pair number_at number_at))
      ∷ (6, mapped (λ p. is.Checkpoint p.0 p.1) (pair number_at number_at)) ∷ (7, mapped (λ n. is.RedoEnd n) number_at)
      ∷ (8, mapped (λ p. is.StableEnd p.0 p.1) (pair number_at number_at))
      ∷ []) (
        choice numbers_read Request request_bytes IsRequest 1 (λ p. is.Connect p.0 p.1) (λ p. refl) (λ p has. has),
        (
          choice perform_reads Request request_bytes IsRequest 2 (λ p. is.Perform p.0 p.1.0 p.1.1.0 p.1.1.1)
              (λ p. refl) (λ p has. has),
          (
            choice get_reads Request request_bytes IsRequest 3 (λ p. is.Get p.0 p.1.0 p.1.1) (λ p. refl) (λ p has. has),
            (
              choice scan_reads Request request_bytes IsRequest 4 (λ p. is.Scan p.0 p.1.0 p.1.1.0 p.1.1.1) (λ p. refl)
                  (λ p has. has),
              (
                choice numbers_read Request request_bytes IsRequest 5 (λ p. is.LowWater p.0 p.1) (λ p. refl)
                    (λ p has. has),
                (
                  choice numbers_read Request request_bytes IsRequest 6 (λ p. is.Checkpoint p.0 p.1) (λ p. refl)
                      (λ p has. has),
                  (
                    choice number_reads Request request_bytes IsRequest 7 (λ n. is.RedoEnd n) (λ n. refl)
                        (λ n has. has),
                    (
                      choice numbers_read Request request_bytes IsRequest 8 (λ p. is.StableEnd p.0 p.1) (λ p. refl)
                          (λ p has. has),
                      tt,
                    ),
                  ),
                ),
              ),
            ),
          ),
        ),
      );
  again = request_again;
}

abbrev IsBody : List ℕ → Type 0
IsBody body = (0 < length body) × (length body ≤ 256)

request_length : (r : Request) → IsRequest r → IsBody (request_bytes r)
unfolding request_bytes
request_length (is.Connect session end) fits = let len = numbers_length session (number end) in let len2 =
    length-number end in (omega arith, omega arith)
request_length (is.Perform session n stable o) fits =
    let len = numbers_length session (number n ++ (number stable ++ op_bytes o)) in
    let len2 = numbers_length n (number stable ++ op_bytes o) in
    let len3 = numbers_length stable (op_bytes o) in
    let most = op_length o fits.1.1.1 in
    (omega arith, omega arith)
request_length (is.Get session read key) fits =
    let len = numbers_length session (number read ++ text key) in
    let len2 = numbers_length read (text key) in
    let most = fits.1.1.1 in
    (omega arith, omega arith)
request_length (is.Scan session read low high) fits =
    let len = numbers_length session (number read ++ (text low ++ optional text high)) in
    let len2 = numbers_length read (text low ++ optional text high) in
    let len3 = length-append (text low) (optional text high) in
    let most = fits.1.1.0.1 in
    let most2 = optional_length text IsKey 33 (λ key few. omega (arith, few.1)) high fits.1.1.1 in
    (omega arith, omega arith)
request_length (is.LowWater session low) fits = let len = numbers_length session (number low) in let len2 =
    length-number low in (omega arith, omega arith)
request_length (is.Checkpoint session low) fits = let len = numbers_length session (number low) in let len2 =
    length-number low in (omega arith, omega arith)
request_length (is.RedoEnd session) fits = let len = length-number session in (omega arith, omega arith)
request_length (is.StableEnd session stable) fits = let len = numbers_length session (number stable) in let len2 =
    length-number stable in (omega arith, omega arith)

pub request_fits : (r : Request) → IsRequest r
    → (0 < length (request_bytes r)) × (length (request_bytes r) ≤ any_length)
request_fits r fits = let h = request_length r fits in (h.0, omega (arith, h.1))

-- a request's frame is taken, whatever follows it
pub request_taken : (place : ℕ) (left : List ℕ) (r : Request) (rest : List ℕ) → IsRequest r
    → left ≡ frame (request_bytes r) ++ rest
    → within place request_at (frame_at any_length place left)
    ≡ took.Record r (place + length (frame (request_bytes r)))
request_taken place left r rest fits e =
    let bounds = request_fits r fits in
    frames.only Request request_bytes IsRequest request_at request_reads any_length place left r rest fits bounds.0
    bounds.1 (omega arith) e

-- and so is its body
pub request_framed : (r : Request) (place : ℕ) (left rest : List ℕ) → IsRequest r → left ≡ frame (request_bytes r) ++ rest
    → frame_at any_length place left ≡ took.Record (request_bytes r) (place + length (frame (request_bytes r)))
request_framed r place left rest fits e =
    let bounds = request_fits r fits in
    frames.framed any_length place (request_bytes r) left rest bounds.0 bounds.1 (omega arith) e
