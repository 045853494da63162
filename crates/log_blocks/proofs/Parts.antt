-- The parts of a block, found in its bytes again.
use Rattle.std.proofs.Common.{◌≡◌, ℕ, ◌+◌, ◌-◌, ◌<◌, ◌≤◌, ◌^◌, Bool, true, eqb, List, ◌∷◌, ◌++◌, length, take, drop, slice_index, sym, ap, subst, refl, ◌∙◌, arith, inl, inr}
use Rattle.std.specs.List.{starts_with, ends_with}
use Rattle.std.proofs.lemmas.Bool.{cases_lt}
use Rattle.std.proofs.lemmas.Bool.Decides.{Decides-eqb}
use Rattle.std.proofs.lemmas.List.{append_assoc, length-append, length-take, take_at, drop_at, take-take, take-append-drop, take_rest}
use Rattle.std.proofs.lemmas.Slice.Eq.{starts_is, ends_is}
use Rattle.byteorder.specs.Endian.{big_number}
use Rattle.byteorder.specs.Numbers.{big_number-reads_back}
use Rattle.md5.specs.Md5.{md5}
use Rattle.md5.proofs.StandardFacts.{length-md5}
use Rattle.log_blocks.specs.declared.before.Before.{Before}
use Rattle.log_blocks.specs.Blocks.{Write, Old, New, start_of, bytes_of, number, fields, summed, seal, sealed, old_fields, old_sealed, old_sum, sum_of, front_of, sum_in, head_len, block_of, CanStand, IsTorn, EndsWithin, InHead, InBlock}

-- ---- lengths

length-number : (n : ℕ) → length (number n) ≡ 8
unfolding number
length-number n = refl

length-fields : (start len : ℕ) → length (fields start len) ≡ 16
unfolding number fields
length-fields start len = refl

length-old_fields : (start len : ℕ) → length (old_fields start len) ≡ 16
unfolding number
length-old_fields start len = refl

pub length-sealed : (sum start len : ℕ) → length (sealed sum start len) ≡ 24
length-sealed sum start len =
    omega (arith, length-append (fields start len) (number (seal sum start len)), length-fields start len, length-number (seal sum start len))

length-old_sealed : (place start len : ℕ) → length (old_sealed place start len) ≡ 24
unfolding old_sealed
length-old_sealed place start len =
    let made = md5 (number place ++ old_fields start len) in
    omega (arith, length-append (old_fields start len) (take 8 made), length-old_fields start len, length-take 8 made, length-md5 (number place ++ old_fields start len))

-- 24 bytes, whatever the version
pub length-front_of : (before : Before) (w : Write) → length (front_of before w) ≡ 24
length-front_of before (Old start bytes) = length-old_sealed before.place start (length bytes)
length-front_of before (New start bytes) = length-sealed before.sum start (length bytes)

pub length-sum_in : (before : Before) (w : Write) → 24 + length (sum_in before w) ≡ head_len w
length-sum_in before (Old start bytes) =
    omega (arith, length-md5 (old_sealed before.place start (length bytes) ++ bytes))
length-sum_in before (New start bytes) = omega (arith, length-number (sum_of before.sum start bytes))

length-head : (before : Before) (w : Write) → length (front_of before w ++ sum_in before w) ≡ head_len w
length-head before w =
    omega (arith, length-append (front_of before w) (sum_in before w), length-front_of before w, length-sum_in before w)

-- a head, and as many as there are
pub length-block_of : (before : Before) (w : Write) → length (block_of before w) ≡ head_len w + length (bytes_of w)
unfolding block_of
length-block_of before w =
    omega (arith, length-append (front_of before w ++ sum_in before w) (bytes_of w), length-head before w)

-- ---- a block in front

-- its head and what is behind it
pub record IsParted (before : Before) (w : Write) (rest head behind : List ℕ) : Type 0 where
  pub head_is : head ≡ front_of before w ++ sum_in before w
  pub behind_is : behind ≡ bytes_of w ++ rest

pub parts : (before : Before) (w : Write) (rest left head behind : List ℕ) → left ≡ block_of before w ++ rest
    → head ≡ take (head_len w) left → behind ≡ drop (head_len w) left → IsParted before w rest head behind
unfolding block_of
parts before w rest left head behind here front back =
    let whole : left ≡ (front_of before w ++ sum_in before w) ++ (bytes_of w ++ rest) =
    here ∙ append_assoc (front_of before w ++ sum_in before w) (bytes_of w) rest in
    record {
      head_is =
          front
          ∙ (ap (take (head_len w)) whole
          ∙ take_at (front_of before w ++ sum_in before w) (bytes_of w ++ rest) (head_len w) (length-head before w));
      behind_is =
          back
          ∙ (ap (drop (head_len w)) whole
          ∙ drop_at (front_of before w ++ sum_in before w) (bytes_of w ++ rest) (head_len w) (length-head before w));
    }

-- what is behind its head
pub bytes_behind : (before : Before) (w : Write) (rest : List ℕ)
    → drop (head_len w) (block_of before w ++ rest) ≡ bytes_of w ++ rest
bytes_behind before w rest = (parts before w rest (block_of before w ++ rest) _ _ refl refl refl).behind_is

-- it has room
pub whole_length : (before : Before) (w : Write) (rest left : List ℕ) → left ≡ block_of before w ++ rest
    → head_len w + length (bytes_of w) ≤ length left
whole_length before w rest left here =
    omega (arith, ap length here, length-append (block_of before w) rest, length-block_of before w)

-- the first bytes of one that begins here
pub front_begins : (n : ℕ) (front left head : List ℕ) → take 24 left ≡ front → head ≡ take n left → 24 ≤ n
    → head ≡ front ++ drop 24 head
front_begins n front left head first is long =
    let same : take 24 head ≡ front = ap (take 24) is ∙ (take-take 24 n left long ∙ first) in
    sym (take-append-drop 24 head) ∙ ap (λ (xs : List ℕ). xs ++ drop 24 head) same

-- ---- what the code reads and compares

-- a list from a place on, as a slice of it
abbrev pub from_place : List ℕ → ℕ → List ℕ
from_place xs place = take (length xs - place) (drop place xs)

-- both numbers are read as they were written, and the head is found to begin right
pub record IsReadRight (start len start_read len_read : ℕ) (begins : Bool) : Type 0 where
  pub start_is : start_read ≡ start
  pub len_is : len_read ≡ len
  pub right : begins ≡ true

new_start : (sum start len : ℕ) (more : List ℕ) → start < 2 ^ 56 → big_number 7 (drop 1 (sealed sum start len ++ more)) ≡ start
unfolding number fields
new_start sum start len more fits =
    big_number-reads_back 7 start ((number len ++ number (seal sum start len)) ++ more) fits

new_len : (sum start len : ℕ) (more : List ℕ) → len < 2 ^ 64 → big_number 8 (drop 8 (sealed sum start len ++ more)) ≡ len
unfolding number fields
new_len sum start len more fits = big_number-reads_back 8 len (number (seal sum start len) ++ more) fits

old_start : (place start len : ℕ) (more : List ℕ) → start < 2 ^ 56 → big_number 8 (old_sealed place start len ++ more) ≡ start
unfolding number old_sealed
old_start place start len more fits =
    big_number-reads_back 8 start ((number len ++ take 8 (md5 (number place ++ old_fields start len))) ++ more) (omega (arith, fits))

old_len : (place start len : ℕ) (more : List ℕ) → len < 2 ^ 64 → big_number 8 (drop 8 (old_sealed place start len ++ more)) ≡ len
unfolding number old_sealed
old_len place start len more fits =
    big_number-reads_back 8 len (take 8 (md5 (number place ++ old_fields start len)) ++ more) fits

pub new_reads : (sum start len : ℕ) (more head front : List ℕ) (start_read len_read : ℕ) (begins : Bool)
    → head ≡ sealed sum start len ++ more → start < 2 ^ 56 → len < 2 ^ 64 → start_read ≡ big_number 7 (from_place head 1)
    → len_read ≡ big_number 8 (from_place head 8) → front ≡ sealed sum start_read len_read
    → begins ≡ starts_with eqb head front → IsReadRight start len start_read len_read begins
new_reads sum start len more head front start_read len_read begins is fits fits_len first second made compared =
    let start_is : start_read ≡ start =
    first ∙ (ap (big_number 7) (take_rest head 1 ∙ ap (drop 1) is) ∙ new_start sum start len more fits) in
    let len_is : len_read ≡ len =
    second ∙ (ap (big_number 8) (take_rest head 8 ∙ ap (drop 8) is) ∙ new_len sum start len more fits_len) in
    let front_is : front ≡ sealed sum start len = made ∙ rw (start_is, len_is) refl in
    record {
      start_is = start_is;
      len_is = len_is;
      right = (starts_is Decides-eqb head front begins compared).1 more (is ∙ ap (λ (xs : List ℕ). xs ++ more) (sym front_is));
    }

pub old_reads : (place start len : ℕ) (more head front : List ℕ) (start_read len_read : ℕ) (begins : Bool)
    → head ≡ old_sealed place start len ++ more → start < 2 ^ 56 → len < 2 ^ 64 → start_read ≡ big_number 8 head
    → len_read ≡ big_number 8 (from_place head 8) → front ≡ old_sealed place start_read len_read
    → begins ≡ starts_with eqb head front → IsReadRight start len start_read len_read begins
old_reads place start len more head front start_read len_read begins is fits fits_len first second made compared =
    let start_is : start_read ≡ start = first ∙ (ap (big_number 8) is ∙ old_start place start len more fits) in
    let len_is : len_read ≡ len =
    second ∙ (ap (big_number 8) (take_rest head 8 ∙ ap (drop 8) is) ∙ old_len place start len more fits_len) in
    let front_is : front ≡ old_sealed place start len = made ∙ rw (start_is, len_is) refl in
    record {
      start_is = start_is;
      len_is = len_is;
      right = (starts_is Decides-eqb head front begins compared).1 more (is ∙ ap (λ (xs : List ℕ). xs ++ more) (sym front_is));
    }

-- a whole block, parted where the code parts the rest of a file
pub record IsWhole (before : Before) (w : Write) (rest head behind : List ℕ) (start_read len_read : ℕ) (begins : Bool) : Type 0 where
  pub parted : IsParted before w rest head behind
  pub reads : IsReadRight (start_of w) (length (bytes_of w)) start_read len_read begins
  pub room : length (bytes_of w) ≤ length behind

pub new_whole : (before : Before) (start : ℕ) (bytes rest left head behind front : List ℕ) (start_read len_read : ℕ)
    (begins : Bool) → left ≡ block_of before (New start bytes) ++ rest → start < 2 ^ 56 → length left < 2 ^ 64
    → head ≡ take 32 left → behind ≡ drop 32 left → start_read ≡ big_number 7 (from_place head 1)
    → len_read ≡ big_number 8 (from_place head 8) → front ≡ sealed before.sum start_read len_read
    → begins ≡ starts_with eqb head front → IsWhole before (New start bytes) rest head behind start_read len_read begins
new_whole before start bytes rest left head behind front start_read len_read begins here fits short first back start_is len_is made compared =
    let w = New start bytes in
    let parted : IsParted before (New start bytes) rest head behind = parts before w rest left head behind here first back in
    record {
      parted = parted;
      reads =
          new_reads before.sum start (length bytes) (sum_in before w) head front start_read len_read begins parted.head_is fits
          (omega (arith, short, whole_length before w rest left here)) start_is len_is made compared;
      room = omega (arith, ap length parted.behind_is, length-append bytes rest);
    }

pub old_whole : (before : Before) (start : ℕ) (bytes rest left head behind front : List ℕ) (start_read len_read : ℕ)
    (begins : Bool) → left ≡ block_of before (Old start bytes) ++ rest → start < 2 ^ 56 → length left < 2 ^ 64
    → head ≡ take 40 left → behind ≡ drop 40 left → start_read ≡ big_number 8 head
    → len_read ≡ big_number 8 (from_place head 8) → front ≡ old_sealed before.place start_read len_read
    → begins ≡ starts_with eqb head front → IsWhole before (Old start bytes) rest head behind start_read len_read begins
old_whole before start bytes rest left head behind front start_read len_read begins here fits short first back start_is len_is made compared =
    let w = Old start bytes in
    let parted : IsParted before (Old start bytes) rest head behind = parts before w rest left head behind here first back in
    record {
      parted = parted;
      reads =
          old_reads before.place start (length bytes) (sum_in before w) head front start_read len_read begins parted.head_is fits
          (omega (arith, short, whole_length before w rest left here)) start_is len_is made compared;
      room = omega (arith, ap length parted.behind_is, length-append bytes rest);
    }

-- its bytes
pub whole_bytes : (before : Before) (w : Write) (rest head behind : List ℕ) (start_read len_read : ℕ) (begins : Bool)
    → IsWhole before w rest head behind start_read len_read begins → take len_read behind ≡ bytes_of w
whole_bytes before w rest head behind start_read len_read begins is =
    ap (take len_read) is.parted.behind_is ∙ take_at (bytes_of w) rest len_read (sym is.reads.len_is)

-- its checksum
pub new_sum : (before : Before) (start : ℕ) (bytes rest head behind : List ℕ) (start_read len_read made sum : ℕ) (begins : Bool)
    → IsWhole before (New start bytes) rest head behind start_read len_read begins → made ≡ seal before.sum start_read len_read
    → sum ≡ summed made (take len_read behind) → sum ≡ sum_of before.sum start bytes
new_sum before start bytes rest head behind start_read len_read made sum begins is made_is sum_is =
    sum_is ∙ rw (whole_bytes before (New start bytes) rest head behind start_read len_read begins is, made_is, is.reads.start_is, is.reads.len_is) refl

pub old_sum_is : (before : Before) (start : ℕ) (bytes rest head behind front sum : List ℕ) (start_read len_read : ℕ) (begins : Bool)
    → IsWhole before (Old start bytes) rest head behind start_read len_read begins
    → front ≡ old_sealed before.place start_read len_read → sum ≡ md5 (front ++ take len_read behind)
    → sum ≡ old_sum before.place start bytes
old_sum_is before start bytes rest head behind front sum start_read len_read begins is front_is sum_is =
    sum_is ∙ rw (whole_bytes before (Old start bytes) rest head behind start_read len_read begins is, front_is, is.reads.start_is, is.reads.len_is) refl

-- the head is found to end with it
pub sum_right : (front sum made head : List ℕ) (ends : Bool) → head ≡ front ++ sum → made ≡ sum → ends ≡ ends_with eqb head made
    → ends ≡ true
sum_right front sum made head ends is made_is compared =
    (ends_is Decides-eqb head made ends compared).1 front (is ∙ ap (λ (xs : List ℕ). front ++ xs) (sym made_is))

-- ---- the first byte

-- a block begins with the front of its head
block_front : (before : Before) (w : Write) (rest left : List ℕ) → left ≡ block_of before w ++ rest
    → left ≡ front_of before w ++ (sum_in before w ++ (bytes_of w ++ rest))
unfolding block_of
block_front before w rest left here = here ∙ simp append_assoc

-- one of version 2 by its version
pub first_new : (before : Before) (start : ℕ) (bytes more left : List ℕ) → left ≡ front_of before (New start bytes) ++ more
    → slice_index left 0 ≡ 2
unfolding fields
first_new before start bytes more left is = ap (λ (xs : List ℕ). slice_index xs 0) is

pub first_of_new : (before : Before) (start : ℕ) (bytes rest left : List ℕ) → left ≡ block_of before (New start bytes) ++ rest
    → slice_index left 0 ≡ 2
first_of_new before start bytes rest left here =
    first_new before start bytes _ left (block_front before (New start bytes) rest left here)

-- one of version 1 by 0
zero_first : (place start len : ℕ) (more : List ℕ) → start < 2 ^ 56 → slice_index (old_sealed place start len ++ more) 0 ≡ 0
unfolding number old_sealed
zero_first place start len more fits = omega (arith, fits)

pub first_old : (before : Before) (start : ℕ) (bytes more left : List ℕ) → left ≡ front_of before (Old start bytes) ++ more
    → start < 2 ^ 56 → slice_index left 0 ≡ 0
first_old before start bytes more left is fits =
    ap (λ (xs : List ℕ). slice_index xs 0) is ∙ zero_first before.place start (length bytes) more fits

pub first_of_old : (before : Before) (start : ℕ) (bytes rest left : List ℕ) → left ≡ block_of before (Old start bytes) ++ rest
    → start < 2 ^ 56 → slice_index left 0 ≡ 0
first_of_old before start bytes rest left here fits =
    first_old before start bytes _ left (block_front before (Old start bytes) rest left here) fits

-- so does what begins with its front
pub first_at : (before : Before) (w : Write) (left : List ℕ) → take 24 left ≡ front_of before w
    → left ≡ front_of before w ++ drop 24 left
first_at before w left first = sym (take-append-drop 24 left) ∙ ap (λ (xs : List ℕ). xs ++ drop 24 left) first

-- ---- a torn block

-- its front, where that is there
torn_front : (before : Before) (w : Write) (count : ℕ) → 24 ≤ count → take 24 (take count (block_of before w)) ≡ front_of before w
unfolding block_of
torn_front before w count long =
    take-take 24 count (block_of before w) long
    ∙ (ap (take 24) (append_assoc (front_of before w) (sum_in before w) (bytes_of w))
    ∙ take_at (front_of before w) (sum_in before w ++ bytes_of w) 24 (length-front_of before w))

-- it ends within itself
ends_torn : (before : Before) (w : Write) (bytes : List ℕ) (count : ℕ) → CanStand before w → bytes ≡ take count (block_of before w)
    → count < head_len w + length (bytes_of w) → length (bytes_of w) < 2 ^ 64 → 24 ≤ count → EndsWithin before bytes
ends_torn before w bytes count stands front short fits long =
    let size : length bytes ≡ count =
    omega (arith, ap length front, length-take count (block_of before w), length-block_of before w, short) in
    InBlock w stands (ap (take 24) front ∙ torn_front before w count long) fits (omega (arith, size, short))

pub torn_ends : (before : Before) (bytes : List ℕ) → IsTorn before bytes → EndsWithin before bytes
torn_ends before bytes cut =
    elim (cases_lt cut.count 24) [
      | inl few ↦ InHead (omega (arith, few, ap length cut.front, length-take cut.count (block_of before cut.block)))
      | inr enough ↦ ends_torn before cut.block bytes cut.count cut.stands cut.front cut.short cut.length_fits enough
    ]
