-- Images of leaves: what is read is spelled so, and what has a spelling is read again.
use Rattle.std.proofs.Common.{◌≡◌, ℕ, Bool, true, false, cond, ltb, ◌+◌, List, [], ◌∷◌, ◌++◌, length, Option, refl, sym, arith, lt-ltb}
use Rattle.std.specs.List.{AllByRecursion, list_all}
use Rattle.std.proofs.lemmas.Bool.{ltb-true, and_parts, and_from, true≢false}
use Rattle.std.specs.Prelude.{IfSome}
use Rattle.std.proofs.lemmas.List.{length-append}
use Rattle.record_key.specs.Table.{Bytes}
use Rattle.record_key.specs.declared.entry.Entry.{Entry}
use Rattle.record_key.specs.Entries.{RiseAbove}
use Rattle.codec.specs.declared.image.LeafImage.{LeafImage}
use Rattle.codec.specs.Fields.{number, IsNumber, text, IsKey, optional}
use Rattle.codec.specs.Rows.{rows_bytes, AreRows}
use Rattle.codec.specs.Entries.{entries_bytes, AreEntries}
use Rattle.codec.specs.Images.{KeepsBounds, image_bytes, IsImage}
use Rattle.codec.specs.Reading.{numbers_rise, keeps_bounds, mapped, ImageParts, image_of, image_parts_at, optional_at, key_at, image_at}
use Rattle.codec.proofs.Readers.{IsReader, both, mapped_reads, fits_as, where_reads}
use Rattle.codec.proofs.Fields.{length-number, numbers_length, number_reads, optional_reads, key_reads}
use Rattle.codec.proofs.Lists.{rows_read, entries_read}

-- an image but for the bounds that its parts keep
abbrev AreParts : LeafImage → Type 0
AreParts image =
    (IsNumber image.id × (IsNumber image.last × IsNumber image.low))
    × ((IfSome image.low_fence IsKey × IfSome image.high_fence IsKey) × (AreRows image.rows × AreEntries image.entries))

parts_of : LeafImage → ImageParts
parts_of image = (
  (image.id, (image.last, image.low)),
  ((image.low_fence, image.high_fence), (image.rows, image.entries)),
)

fence_reads : IsReader (Option Bytes) (optional text) (λ o. IfSome o IsKey) (optional_at key_at)
fence_reads = optional_reads Bytes text IsKey key_at key_reads

parts_read : IsReader LeafImage image_bytes AreParts (mapped image_of image_parts_at)
unfolding image_bytes parts_of
parts_read = mapped_reads _ LeafImage _ _ _ image_bytes AreParts
    (both (both number_reads (both number_reads number_reads))
    (both (both fence_reads fence_reads) (both rows_read entries_read)))
    image_of parts_of (λ p. refl) (λ p has. has) (λ image. refl) (λ image has. has)

-- a test that all pass
all_pass : {X : Type 0} (test : X → Bool) (xs : List X) → list_all test xs ≡ true
    → AllByRecursion (λ x. test x ≡ true) xs
all_pass test [] h = tt
all_pass test (x ∷ xs) h = let both = and_parts (test x) (list_all test xs) h in (both.0, all_pass test xs both.1)

passed : {X : Type 0} (test : X → Bool) (xs : List X) → AllByRecursion (λ x. test x ≡ true) xs → list_all test xs ≡ true
passed test [] all = refl
passed test (x ∷ xs) all = and_from (test x) (list_all test xs) all.0 (passed test xs all.1)

first_rises : (b c : Bool) → cond b c false ≡ true → (b ≡ true) × (c ≡ true)
first_rises true c h = (refl, h)
first_rises false c h = absurd (true≢false (sym h))

rise_above : (low : ℕ) (entries : List Entry) → numbers_rise low entries ≡ true → RiseAbove low entries
rise_above low [] h = tt
rise_above low (e ∷ es) h =
    let both = first_rises (ltb low e.number) (numbers_rise e.number es) h in
    (ltb-true low e.number both.0, rise_above e.number es both.1)

above_rise : (low : ℕ) (entries : List Entry) → RiseAbove low entries → numbers_rise low entries ≡ true
above_rise low [] h = refl
above_rise low (e ∷ es) h = rw (lt-ltb low e.number h.0) (above_rise e.number es h.1)

bounds_from : (image : LeafImage) → keeps_bounds image ≡ true → KeepsBounds image
bounds_from image h =
    let one = and_parts _ _ h in
    let two = and_parts _ _ one.1 in
    record {
      rows = all_pass _ image.rows one.0;
      entries = all_pass _ image.entries two.0;
      rising = rise_above image.low image.entries two.1;
    }

from_bounds : (image : LeafImage) → KeepsBounds image → keeps_bounds image ≡ true
from_bounds image h =
    and_from _ _ (passed _ image.rows h.rows)
    (and_from _ _ (passed _ image.entries h.entries) (above_rise image.low image.entries h.rising))

is_image : (image : LeafImage) → AreParts image × (keeps_bounds image ≡ true) → IsImage image
is_image image fits = record {
  id = fits.0.0.0;
  last = fits.0.0.1.0;
  low = fits.0.0.1.1;
  low_fence = fits.0.1.0.0;
  high_fence = fits.0.1.0.1;
  rows = fits.0.1.1.0;
  entries = fits.0.1.1.1;
  bounds = bounds_from image fits.1;
}

pub image_reads : IsReader LeafImage image_bytes IsImage image_at
unfolding image_at
image_reads = fits_as (where_reads LeafImage image_bytes AreParts (mapped image_of image_parts_at) parts_read
    keeps_bounds) IsImage is_image
    (λ image fits. (
      ((fits.id, (fits.last, fits.low)), ((fits.low_fence, fits.high_fence), (fits.rows, fits.entries))),
      from_bounds image fits.bounds,
    ))

pub image_length : (image : LeafImage) →
    length (image_bytes image) ≡ 24 + (length (optional text image.low_fence) + length (optional text image.high_fence))
    + (length (rows_bytes image.rows) + length (entries_bytes image.entries))
unfolding image_bytes
image_length image =
    let fences = optional text image.low_fence ++ optional text image.high_fence in
    let lists = rows_bytes image.rows ++ entries_bytes image.entries in
    let all = length-append (number image.id ++ (number image.last ++ number image.low)) (fences ++ lists) in
    let numbers = numbers_length image.id (number image.last ++ number image.low) in
    let two = numbers_length image.last (number image.low) in
    let one = length-number image.low in
    let rest = length-append fences lists in
    let both_fences = length-append (optional text image.low_fence) (optional text image.high_fence) in
    let both_lists = length-append (rows_bytes image.rows) (entries_bytes image.entries) in
    omega arith
