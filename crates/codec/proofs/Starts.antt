-- The beginning of a frame, written part by part into an array that it fills.
use Rattle.std.proofs.Common.{◌≡◌, ◌∙◌, ℕ, ◌+◌, ◌≤◌, List, [], ◌∷◌, ◌++◌, length, take, drop, slice_set, refl, sym, ap, append_assoc, arith}
use Rattle.std.proofs.lemmas.List.{take_at, take_all, length-append, length-set, length-take-le, length-drop}
use Rattle.std.proofs.lemmas.Grind.{take-set_at}
use borrow.Rule.Slice.PartMut.{put_mid, post_of}
use Rattle.codec.specs.Fields.{number}
use Rattle.codec.proofs.Fields.{length-number}

-- what is put in the place of the last bytes
length_put : (at room : ℕ) (bytes part : List ℕ) → length bytes ≡ at + room → length part ≡ room
    → length (put_mid at room bytes part) ≡ at + room
length_put at room bytes part whole is =
    omega (
      arith,
      whole,
      is,
      length-append (take at bytes) (part ++ post_of at room bytes),
      length-append part (post_of at room bytes),
      length-take-le at bytes (omega (arith, whole)),
      length-drop room (drop at bytes),
      length-drop at bytes,
    )

-- a number is written behind what stands before it
number_put : (at room : ℕ) (bytes part : List ℕ) (n : ℕ) (more : List ℕ) → at ≤ length bytes → part ≡ number n ++ more
    → take (at + 8) (put_mid at room bytes part) ≡ take at bytes ++ number n
number_put at room bytes part n more within is =
    let before : List ℕ = take at bytes in
    let after : List ℕ = post_of at room bytes in
    let parts : put_mid at room bytes part ≡ (before ++ number n) ++ (more ++ after) =
    ap (λ (b : List ℕ). before ++ (b ++ after)) is
    ∙ ap (λ (b : List ℕ). before ++ b) (append_assoc (number n) more after)
    ∙ sym (append_assoc before (number n) (more ++ after)) in
    ap (take (at + 8)) parts
    ∙ take_at (before ++ number n) (more ++ after) (at + 8)
    (omega (arith, length-append before (number n), length-number n, length-take-le at bytes within))

-- one number more is written behind what is written
more_put : (at room len n : ℕ) (bytes part so_far more : List ℕ) → at ≤ length bytes
    → take at bytes ≡ number len ++ so_far → part ≡ number n ++ more
    → take (at + 8) (put_mid at room bytes part) ≡ number len ++ (so_far ++ number n)
more_put at room len n bytes part so_far more within begins is =
    number_put at room bytes part n more within is
    ∙ ap (λ (b : List ℕ). b ++ number n) begins
    ∙ append_assoc (number len) so_far (number n)

-- a kind behind the length
kind_put : (len kind : ℕ) (bytes rest : List ℕ) → 9 ≤ length bytes → bytes ≡ number len ++ rest
    → take 9 (slice_set bytes 8 kind) ≡ number len ++ kind ∷ []
kind_put len kind bytes rest long is =
    take-set_at bytes 8 9 kind refl (omega (arith, long))
    ∙ ap (λ (b : List ℕ). take 8 b ++ kind ∷ []) is
    ∙ ap (λ (b : List ℕ). b ++ kind ∷ []) (take_at (number len) rest 8 (length-number len))

-- the length, a kind, and a number into the bytes that are left
module _ (room len kind n : ℕ) (first second rest more : List ℕ) (long : length first ≡ 9 + room)
    (is : first ≡ number len ++ rest) (second_long : length second ≡ room) (second_is : second ≡ number n ++ more) where
  abbrev kinded : List ℕ
  kinded = slice_set first 8 kind

  abbrev with_one : List ℕ
  with_one = put_mid 9 room kinded second

  kinded_long : length kinded ≡ 9 + room
  kinded_long = omega (arith, long, length-set first 8 kind)

  one_long : length with_one ≡ 9 + room
  one_long = length_put 9 room kinded second kinded_long second_long

  one_put : take 17 with_one ≡ number len ++ (kind ∷ number n)
  one_put =
      more_put 9 room len n kinded second (kind ∷ []) more (omega (arith, kinded_long))
      (kind_put len kind first rest (omega (arith, long)) is) second_is

  -- a start with one number is whole
  pub start_is : room ≡ 8 → with_one ≡ number len ++ (kind ∷ number n)
  start_is full = sym (take_all 17 with_one (omega (arith, one_long, full))) ∙ one_put

  -- and a second number
  module _ (left m : ℕ) (third last : List ℕ) (some : room ≡ 8 + left) (third_long : length third ≡ left)
      (third_is : third ≡ number m ++ last) where
    abbrev with_two : List ℕ
    with_two = put_mid 17 left with_one third

    two_long : length with_two ≡ 17 + left
    two_long = length_put 17 left with_one third (omega (arith, one_long, some)) third_long

    two_put : take 25 with_two ≡ number len ++ (kind ∷ number n ++ number m)
    two_put = more_put 17 left len m with_one third (kind ∷ number n) last (omega (arith, one_long, some)) one_put third_is

    pub long_start_is : left ≡ 8 → with_two ≡ number len ++ (kind ∷ number n ++ number m)
    long_start_is full = sym (take_all 25 with_two (omega (arith, two_long, full))) ∙ two_put

    -- and a third
    module _ (end k : ℕ) (fourth after : List ℕ) (more_left : left ≡ 8 + end) (fourth_long : length fourth ≡ end)
        (fourth_is : fourth ≡ number k ++ after) where
      abbrev with_three : List ℕ
      with_three = put_mid 25 end with_two fourth

      three_long : length with_three ≡ 25 + end
      three_long = length_put 25 end with_two fourth (omega (arith, two_long, more_left)) fourth_long

      three_put : take 33 with_three ≡ number len ++ (kind ∷ (number n ++ number m) ++ number k)
      three_put =
          more_put 25 end len k with_two fourth (kind ∷ number n ++ number m) after
          (omega (arith, two_long, more_left)) two_put fourth_is

      pub longer_start_is : end ≡ 8 → with_three ≡ number len ++ (kind ∷ number n ++ (number m ++ number k))
      longer_start_is full =
          sym (take_all 33 with_three (omega (arith, three_long, full)))
          ∙ three_put
          ∙ ap (λ (b : List ℕ). number len ++ (kind ∷ b)) (append_assoc (number n) (number m) (number k))
