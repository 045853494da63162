-- A log as a slice, the oldest first, beside the list that the definitions speak of.
use Rattle.std.proofs.Common.{◌≡◌, ℕ, zero, suc, ◌+◌, ◌-◌, ◌<◌, ◌≤◌, List, [], ◌∷◌, ◌++◌, length, reverse, take, drop, get_or, Option, Some, is_some, IfSome, sym, ap, ◌∙◌, subst, arith, inl, inr, ltb, Bor, take-suc, length-take, take-append-drop}
use Rattle.std.specs.Option.{option_copied}
use Rattle.std.proofs.lemmas.List.{reverse-append, length-reverse, take_all}
use Rattle.std.proofs.lemmas.Bool.{cases_eq, ltb-true, ltb-false}
use Rattle.history.specs.declared.record.Record.{Record}
use Rattle.history.specs.Log.{record_at}
use Rattle.history.specs.Legal.{Fits, IsLegal}
use Rattle.log_laws.proofs.Records.{at_newest, record_old, beyond}
use Rattle.log_laws.proofs.LegalLogs.{legal_end}

-- one more of the slice is the newest of the list
pub reverse-take_suc : (xs : List Record) (i : ℕ) (d : Record) → i < length xs
    → reverse (take (suc i) xs) ≡ get_or xs i d ∷ reverse (take i xs)
reverse-take_suc xs i d h = ap reverse (take-suc xs i d h) ∙ reverse-append (take i xs) (get_or xs i d ∷ [])

-- all of the slice is the list
pub reverse-take_all : (xs : List Record) → reverse (take (length xs) xs) ≡ reverse xs
reverse-take_all xs = ap reverse (take_all (length xs) xs (omega arith))

-- the first so many are so many
pub length-taken : (xs : List Record) (i : ℕ) → i ≤ length xs → length (reverse (take i xs)) ≡ i
length-taken xs i h = length-reverse (take i xs) ∙ omega (arith, length-take i xs)

-- the record of a number stands at the place one below it
at_taken : (xs : List Record) (m i : ℕ) (d : Record) → i < m → m ≤ length xs
    → record_at (reverse (take m xs)) (i + 1) ≡ Some (get_or xs i d)
at_taken xs zero i d below within = absurd (omega arith)
at_taken xs (suc m) i d below within =
    let more = reverse-take_suc xs m d (omega arith) in
    let size : length (reverse (take m xs)) ≡ m = length-taken xs m (omega arith) in
    elim (cases_eq i m) [
      | inl e ↦ ap (λ x. record_at x (i + 1)) more
          ∙ at_newest (λ x. x ≡ Some (get_or xs i d)) (get_or xs m d) (reverse (take m xs)) (i + 1) (omega arith)
          (ap (λ (j : ℕ). Some (get_or xs j d)) (sym e))
      | inr e ↦ ap (λ x. record_at x (i + 1)) more
          ∙ record_old (get_or xs m d) (reverse (take m xs)) (i + 1) (λ f. e (omega arith))
          ∙ at_taken xs m i d (omega arith) (omega arith)
    ]

-- in the whole slice
pub at_reversed : (xs : List Record) (i : ℕ) (d : Record) → i < length xs
    → record_at (reverse xs) (i + 1) ≡ Some (get_or xs i d)
at_reversed xs i d h = ap (λ x. record_at x (i + 1)) (sym (reverse-take_all xs))
    ∙ at_taken xs (length xs) i d h (omega arith)

-- what is read at the place is the record of the number
pub read_at : (xs : List Record) (n : ℕ) (r : Option (Bor Record)) → (n ≡ 0 → ⊥) → is_some r ≡ ltb (n - 1) (length xs)
    → IfSome r (λ x. x.now ≡ get_or xs (n - 1) x.now)
    → option_copied r ≡ record_at (reverse xs) n
read_at xs n r positive is_in there = grind (arith, ltb-false, beyond, length-reverse, at_reversed, ltb-true)

-- a legal log's record fits those before its place
pub fits_taken : (xs : List Record) (i : ℕ) (d : Record) → i < length xs → IsLegal (reverse xs)
    → Fits (reverse (take i xs)) (get_or xs i d)
fits_taken xs i d h legal =
    let parts : reverse (drop (suc i) xs) ++ reverse (take (suc i) xs) ≡ reverse xs =
    sym (reverse-append (take (suc i) xs) (drop (suc i) xs)) ∙ ap reverse (take-append-drop (suc i) xs) in
    let taken : IsLegal (reverse (take (suc i) xs)) =
    legal_end (reverse (drop (suc i) xs)) (reverse (take (suc i) xs)) (subst IsLegal (sym parts) legal) in
    (subst IsLegal (reverse-take_suc xs i d h) taken).0
