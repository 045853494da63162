-- A list cut at the first element that passes a test.
use Rattle.std.proofs.Common.{◌≡◌, ℕ, ◌+◌, ◌≤◌, Bool, true, false, cond, not, List, [], ◌∷◌, Option, Some, None, length, take, drop, position, ap, ◌∙◌, subst, refl, arith, sym, ◌<◌, ◌==◌}
use Rattle.std.specs.Prelude.{nat_lt}
use Rattle.std.specs.List.{slice_split, onto_first, position_or_len}
use Rattle.std.proofs.lemmas.Bool.{ltb-true, ltb-false}
use Rattle.std.proofs.lemmas.List.Splits.{slice_split-cons_no, slice_split_first, length-slice_split}
use Rattle.shell_scripts.specs.Script.{command_of, parts_left}
use Rattle.shell_scripts.specs.Words.{words_of}

whole_step : (p : ℕ → Bool) (x : ℕ) (xs : List ℕ) (b : Bool) → p x ≡ b
    → (length xs ≤ position_or_len p xs → slice_split p xs ≡ xs ∷ [])
    → length (x ∷ xs) ≤ cond (not b) (1 + position_or_len p xs) 0 → slice_split p (x ∷ xs) ≡ (x ∷ xs) ∷ []
whole_step p x xs true e later h = absurd (omega arith)
whole_step p x xs false e later h = slice_split-cons_no p x xs e ∙ ap (onto_first x) (later (omega arith))

whole : (p : ℕ → Bool) (xs : List ℕ) → length xs ≤ position_or_len p xs → slice_split p xs ≡ xs ∷ []
whole p [] h = refl
whole p (x ∷ xs) h = whole_step p x xs (p x) refl (whole p xs) h

not_cut_by : (p : ℕ → Bool) (xs : List ℕ) (b : Bool) → nat_lt (position_or_len p xs) (length xs) ≡ b
    → cond b (Some (position_or_len p xs)) None ≡ None → slice_split p xs ≡ xs ∷ []
not_cut_by p xs true lt e = absurd (cc e)
not_cut_by p xs false lt e = whole p xs (ltb-false (position_or_len p xs) (length xs) lt)

-- nothing passes: one part
pub not_cut : (p : ℕ → Bool) (xs : List ℕ) → position p xs ≡ None → slice_split p xs ≡ xs ∷ []
not_cut p xs e = not_cut_by p xs (nat_lt (position_or_len p xs) (length xs)) refl e

cut_by : (p : ℕ → Bool) (xs : List ℕ) (place : ℕ) (b : Bool) → nat_lt (position_or_len p xs) (length xs) ≡ b
    → cond b (Some (position_or_len p xs)) None ≡ Some place
    → slice_split p xs ≡ take place xs ∷ slice_split p (drop (place + 1) xs)
cut_by p xs place true lt e =
    let same : position_or_len p xs ≡ place = cc e in
    let P : ℕ → Type 0 = λ n. slice_split p xs ≡ take n xs ∷ slice_split p (drop (n + 1) xs) in
    subst P same (slice_split_first p xs 0 (ltb-true (position_or_len p xs) (length xs) lt))
cut_by p xs place false lt e = absurd (cc e)

-- what stands before the first that passes, and the parts of what stands after it
pub cut_there : (p : ℕ → Bool) (xs : List ℕ) (place : ℕ) → position p xs ≡ Some place
    → slice_split p xs ≡ take place xs ∷ slice_split p (drop (place + 1) xs)
cut_there p xs place e = cut_by p xs place (nat_lt (position_or_len p xs) (length xs)) refl e

-- a part stands behind the last cut
some_part : (xs : List ℕ) (p : ℕ → Bool) → 0 < length (slice_split p xs)
some_part xs p = omega (arith, length-slice_split p xs)

too_many : (name a b c d e : List ℕ) (more : List (List ℕ)) → 0 < length more
    → None ≡ command_of (name ∷ a ∷ b ∷ c ∷ d ∷ e ∷ more)
too_many name a b c d e [] h = absurd (omega arith)
too_many name a b c d e (x ∷ xs) h = refl

-- seven words are no line
pub seven_words : (name a b c d rest e more : List ℕ) (o : Option (List ℕ))
    → words_of rest ≡ e ∷ parts_left 32 o → o ≡ Some more
    → None ≡ command_of (name ∷ a ∷ b ∷ c ∷ d ∷ words_of rest)
seven_words name a b c d rest e more o first is =
    let words : words_of rest ≡ e ∷ words_of more = first ∙ ap (λ v. e ∷ parts_left 32 v) is in
    too_many name a b c d e (words_of more) (some_part more (λ b. b == 32))
    ∙ ap (λ v. command_of (name ∷ a ∷ b ∷ c ∷ d ∷ v)) (sym words)
