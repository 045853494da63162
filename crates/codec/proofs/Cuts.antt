-- Beginnings of the same bytes, and a part of a frame.
use Rattle.std.proofs.Common.{◌≡◌, ℕ, ◌+◌, ◌<◌, ◌≤◌, ◌^◌, List, ◌++◌, length, take, drop, refl, sym, ap, ◌∙◌, arith, inl, inr, append_assoc}
use Rattle.std.proofs.lemmas.Bool.{cases_lt}
use Rattle.std.proofs.lemmas.List.{length-append, take_at, drop_at, take-append-drop, take-append-le}
use Rattle.codec.specs.Fields.{number, first_number}
use Rattle.codec.specs.Frames.{frame, IsCut}
use Rattle.codec.proofs.Fields.{length-number, first_number-number}

-- of two beginnings the longer one begins with the other
pub longer : (xs ys a b : List ℕ) → xs ++ a ≡ ys ++ b → length xs ≤ length ys → ys ≡ xs ++ drop (length xs) ys
longer xs ys a b e le =
    let n : ℕ = length xs in
    let same : take n ys ≡ xs =
    sym (take-append-le n ys b le) ∙ ap (take n) (sym e) ∙ take_at xs a n refl in
    sym (take-append-drop n ys) ∙ ap (λ (t : List ℕ). t ++ drop n ys) same

-- and what follows the other goes on with it
pub after : (xs ys a b t : List ℕ) → xs ++ a ≡ ys ++ b → ys ≡ xs ++ t → a ≡ t ++ b
after xs ys a b t e is =
    let n : ℕ = length xs in
    sym (drop_at xs a n refl)
    ∙ ap (drop n) (e ∙ ap (λ (l : List ℕ). l ++ b) is ∙ append_assoc xs t b)
    ∙ drop_at xs (t ++ b) n refl

-- a part of a frame is cut
pub part_cut : (limit : ℕ) (body part more : List ℕ) → 0 < length body → length body ≤ limit → length body < 2 ^ 64
    → frame body ≡ part ++ more → length part < length (frame body) → IsCut limit part
part_cut limit body part more some within few e less =
    let header : List ℕ = number (length body) in
    let long : length (frame body) ≡ 8 + length body =
    length-append header body ∙ ap (λ (n : ℕ). n + length body) (length-number (length body)) in
    elim (cases_lt (length part) 8) [
      | inl short ↦ inl short
      | inr there ↦
          let is : part ≡ header ++ drop (length header) part =
          longer header part body more e (omega (arith, there, length-number (length body))) in
          let count : first_number part ≡ length body =
          ap first_number is ∙ first_number-number (length body) (drop (length header) part) few in
          inr (
            omega (arith, count, some),
            omega (arith, count, within),
            there,
            omega (arith, count, less, long),
          )
    ]
