-- What a beginning of a log is, and what it has of the log.
use Rattle.std.proofs.Common.{◌≡◌, ℕ, suc, ◌-◌, ◌≤◌, List, [], ◌∷◌, length, drop, refl, sym, ap, ◌∙◌, subst, arith, inl, inr}
use Rattle.std.proofs.lemmas.Bool.{cases_lt}
use Rattle.std.proofs.lemmas.List.{length-drop}
use Rattle.framed_log.specs.Beginning.{beginning}

-- all of it, where there are no more records than that
pub whole : {X : Type 0} (log : List X) (n : ℕ) → length log ≤ n → beginning log n ≡ log
whole log n le = let e : length log - n ≡ 0 = omega (arith, le) in ap (λ (k : ℕ). drop k log) e

pub everything : {X : Type 0} (log : List X) → beginning log (length log) ≡ log
everything log = whole log (length log) (omega arith)

-- that of a longer log
pub shorter : {X : Type 0} (r : X) (log : List X) (n : ℕ) → n ≤ length log → beginning (r ∷ log) n ≡ beginning log n
shorter r log n le =
    let e : length (r ∷ log) - n ≡ suc (length log - n) = omega (arith, le) in
    ap (λ (k : ℕ). drop k (r ∷ log)) e

pub length_beginning : {X : Type 0} (log : List X) (n : ℕ) → n ≤ length log → length (beginning log n) ≡ n
length_beginning log n le = length-drop (length log - n) log ∙ omega (arith, le)

-- what holds of a log holds of its beginning, if it stays with each record less while so many are left
pub of_beginning : {X : Type 0} (P : List X → Type 0) (n : ℕ)
    → ((r : X) (log : List X) → n ≤ length log → P (r ∷ log) → P log) → (log : List X) → P log → P (beginning log n)
of_beginning P n less [] h = subst P (sym (whole [] n (omega arith))) h
of_beginning P n less (r ∷ log) h =
    elim (cases_lt (length log) n) [
      | inl all ↦ subst P (sym (whole (r ∷ log) n (omega (arith, all)))) h
      | inr le ↦ subst P (sym (shorter r log n le)) (of_beginning P n less log (less r log le h))
    ]

-- a beginning of a beginning
pub twice : {X : Type 0} (log : List X) (n m : ℕ) → m ≤ n → beginning (beginning log n) m ≡ beginning log m
twice {X = X} log n m le =
    of_beginning (λ (l : List X). beginning l m ≡ beginning log m) n
    (λ r l more is. sym (shorter r l m (omega (arith, le, more))) ∙ is) log refl

-- as many records as are asked for are left
pub long_enough : {X : Type 0} (log : List X) (n m : ℕ) → m ≤ n → m ≤ length log → m ≤ length (beginning log n)
long_enough {X = X} log n m le within =
    of_beginning (λ (l : List X). m ≤ length l) n (λ r l more _. omega (arith, le, more)) log within
