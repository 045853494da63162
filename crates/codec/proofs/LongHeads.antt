-- A frame whose body begins with a kind and numbers: its start is written, then what follows.
use Rattle.std.proofs.Common.{◌≡◌, ◌∙◌, ℕ, ◌+◌, List, ◌∷◌, ◌++◌, length, refl, ap, append_assoc, arith}
use Rattle.codec.specs.Fields.{number}
use Rattle.codec.specs.Frames.{frame}
use Rattle.codec.proofs.Fields.{numbers_length}

pub headed_length : (kind n m : ℕ) (last : List ℕ) → length (kind ∷ number n ++ (number m ++ last)) ≡ 17 + length last
headed_length kind n m last = omega (arith, numbers_length n (number m ++ last), numbers_length m last)

module _ (kind len : ℕ) (last old reserved started written : List ℕ) (reserved_is : reserved ≡ old)
    (last_put : written ≡ started ++ last) where
  -- the numbers and what follows them are these bytes
  framed : (numbers body : List ℕ) → started ≡ reserved ++ (number len ++ (kind ∷ numbers)) → numbers ++ last ≡ body
      → len ≡ length (kind ∷ body) → written ≡ old ++ frame (kind ∷ body)
  framed numbers body start_put body_is len_is =
      let start : List ℕ = number len ++ (kind ∷ numbers) in
      last_put
      ∙ ap (λ (b : List ℕ). b ++ last) (start_put ∙ ap (λ (b : List ℕ). b ++ start) reserved_is)
      ∙ append_assoc old start last
      ∙ ap (λ (b : List ℕ). old ++ b) (append_assoc (number len) (kind ∷ numbers) last)
      ∙ ap (λ (b : List ℕ). old ++ (number len ++ (kind ∷ b))) body_is
      ∙ ap (λ (k : ℕ). old ++ (number k ++ (kind ∷ body))) len_is

  pub headed_frame : (n : ℕ) → started ≡ reserved ++ (number len ++ (kind ∷ number n)) → len ≡ 9 + length last
      → written ≡ old ++ frame (kind ∷ number n ++ last)
  headed_frame n start_put len_is =
      framed (number n) (number n ++ last) start_put refl (omega (arith, len_is, numbers_length n last))

  pub long_headed_frame : (n m : ℕ) → started ≡ reserved ++ (number len ++ (kind ∷ number n ++ number m))
      → len ≡ 17 + length last → written ≡ old ++ frame (kind ∷ number n ++ (number m ++ last))
  long_headed_frame n m start_put len_is =
      framed (number n ++ number m) (number n ++ (number m ++ last)) start_put
      (append_assoc (number n) (number m) last) (omega (arith, len_is, headed_length kind n m last))

  pub longer_headed_frame : (n m k : ℕ)
      → started ≡ reserved ++ (number len ++ (kind ∷ number n ++ (number m ++ number k)))
      → len ≡ 25 + length last → written ≡ old ++ frame (kind ∷ number n ++ (number m ++ (number k ++ last)))
  longer_headed_frame n m k start_put len_is =
      framed (number n ++ (number m ++ number k)) (number n ++ (number m ++ (number k ++ last))) start_put
      (append_assoc (number n) (number m ++ number k) last
      ∙ ap (λ (b : List ℕ). number n ++ b) (append_assoc (number m) (number k) last))
      (omega (arith, len_is, headed_length kind n m (number k ++ last), numbers_length k last))
