-- Records of the data component's log: what is read is spelled so, and what has a spelling is read again.
use Rattle.std.proofs.Common.{◌≡◌, ℕ, ◌<◌, ◌+◌, true, eqb, List, [], ◌∷◌, ◌++◌, length, Some, refl, arith, eq-eqb}
use Rattle.std.proofs.lemmas.Bool.{eqb-true}
use Rattle.std.proofs.lemmas.List.{length-append}
use Rattle.record_key.specs.Table.{Bytes}
use Rattle.codec.specs.declared.image.LeafImage.{LeafImage}
use Rattle.codec.specs.declared.dc_record.DcRecord.{DcRecord}
use Rattle.codec.specs.declared.dc_record.DcRecord.TheVariants as is
use Rattle.codec.specs.Fields.{number, IsNumber, text, IsKey}
use Rattle.codec.specs.Images.{image_bytes, IsImage}
use Rattle.codec.specs.DcRecords.{dc_record_bytes, IsDcRecord}
use Rattle.codec.specs.Reading.{pair, mapped, number_at, key_at, image_at, merge_at, dc_record_at}
use Rattle.codec.proofs.Readers.{IsReader, both, made_again, where_reads, choice, one_of_takes}
use Rattle.codec.proofs.Fields.{length-number, numbers_length, number_reads, key_reads}
use Rattle.codec.proofs.Images.{image_reads}

split_reads : IsReader (ℕ × (Bytes × LeafImage)) (λ p. number p.0 ++ (text p.1.0 ++ image_bytes p.1.1))
    (λ p. IsNumber p.0 × (IsKey p.1.0 × IsImage p.1.1)) (pair number_at (pair key_at image_at))
split_reads = both number_reads (both key_reads image_reads)

merge_reads : IsReader (ℕ × (ℕ × LeafImage)) (λ p. number p.0 ++ (number p.1.0 ++ image_bytes p.1.1))
    (λ p. (IsNumber p.0 × (IsNumber p.1.0 × IsImage p.1.1)) × (eqb p.1.1.id p.0 ≡ true)) merge_at
merge_reads = where_reads _ _ _ _ (both number_reads (both number_reads image_reads)) (λ p. eqb p.1.1.id p.0)

dc_record_again : (r : DcRecord) (rest : List ℕ) → IsDcRecord r
    → dc_record_at (dc_record_bytes r ++ rest) ≡ Some (r, rest)
unfolding dc_record_bytes dc_record_at
dc_record_again (is.Accept session) rest fits = made_again number_reads (λ n. is.Accept n) session rest fits
dc_record_again (is.Split left cut right) rest fits =
    made_again split_reads (λ p. is.Split p.0 p.1.0 p.1.1) (left, (cut, right)) rest fits
dc_record_again (is.Merge left right merged) rest fits =
    made_again merge_reads (λ p. is.Merge p.0 p.1.0 p.1.1) (left, (right, merged)) rest
    (fits.0, eq-eqb merged.id left fits.1)

pub dc_record_reads : IsReader DcRecord dc_record_bytes IsDcRecord dc_record_at
unfolding dc_record_bytes dc_record_at
dc_record_reads = record {
  takes = one_of_takes DcRecord dc_record_bytes IsDcRecord
      ((1, mapped (λ n. is.Accept n) number_at)
      ∷ (2, mapped (λ p. is.Split p.0 p.1.0 p.1.1) (pair number_at (pair key_at image_at)))
      ∷ (3, mapped (λ p. is.Merge p.0 p.1.0 p.1.1) merge_at) ∷ []) (
        choice number_reads DcRecord dc_record_bytes IsDcRecord 1 (λ n. is.Accept n) (λ n. refl) (λ n has. has),
        (
          choice split_reads DcRecord dc_record_bytes IsDcRecord 2 (λ p. is.Split p.0 p.1.0 p.1.1) (λ p. refl)
              (λ p has. has),
          (
            choice merge_reads DcRecord dc_record_bytes IsDcRecord 3 (λ p. is.Merge p.0 p.1.0 p.1.1) (λ p. refl)
                (λ p has. (has.0, eqb-true p.1.1.id p.0 has.1)),
            tt,
          ),
        ),
      );
  again = dc_record_again;
}

pub split_length : (left : ℕ) (cut : Bytes) (right : LeafImage)
    → length (dc_record_bytes (is.Split left cut right)) ≡ 9 + (length (text cut) + length (image_bytes right))
unfolding dc_record_bytes
split_length left cut right =
    omega (arith, numbers_length left (text cut ++ image_bytes right), length-append (text cut) (image_bytes right))

pub ruleset dc_record_lengths = (length-number, numbers_length, split_length)

pub dc_record_not_empty : (r : DcRecord) → 0 < length (dc_record_bytes r)
unfolding dc_record_bytes
dc_record_not_empty (is.Accept session) = omega arith
dc_record_not_empty (is.Split left cut right) = omega arith
dc_record_not_empty (is.Merge left right merged) = omega arith
