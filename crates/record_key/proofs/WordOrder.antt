-- Two texts, compared eight bytes at a time.
use Rattle.std.proofs.Common.{◌≡◌, ◌≤◌, ℕ, ◌+◌, min, List, [], ◌∷◌, ◌++◌, length, drop, take, refl, sym, ap, ◌∙◌, arith, length-drop, take-append-drop, false, true}
use Rattle.std.proofs.Math.Seq.{take-add}
use Rattle.std.proofs.lemmas.List.{take-take}
use Rattle.std.proofs.lemmas.Map.Lookups.{exact_bytes}
use Rattle.std.specs.Ordering.{nat_cmp, is_ne, ordering_then}
use Rattle.std.specs.Cmp.Lexicographic.{slice_cmp}
use Rattle.std.specs.declared.cmp.Ordering.{Ordering}
use Rattle.std.specs.declared.cmp.Ordering.TheVariants.{Less, Equal, Greater}
use Rattle.record_key.proofs.Numbers.{unequal_first, nat_cmp-itself, below, above, shifted}

-- the bytes before a place, which both have, are equal
pub record AreEqualTo (at both : ℕ) (xs ys : List ℕ) : Type 0 where
  pub within : at ≤ both
  pub same : take at xs ≡ take at ys

abbrev order_at : ℕ → List ℕ → List ℕ → Ordering
order_at at xs ys = slice_cmp nat_cmp (take 8 (drop at xs)) (take 8 (drop at ys))

-- what both begin with decides nothing
behind : (front xs ys : List ℕ) → slice_cmp nat_cmp (front ++ xs) (front ++ ys) ≡ slice_cmp nat_cmp xs ys
behind [] xs ys = refl
behind (x ∷ front) xs ys =
    ap (λ (o : Ordering). ordering_then o (slice_cmp nat_cmp (front ++ xs) (front ++ ys))) (nat_cmp-itself x)
    ∙ behind front xs ys

rest_decides : (at : ℕ) (xs ys : List ℕ) → take at xs ≡ take at ys
    → slice_cmp nat_cmp xs ys ≡ slice_cmp nat_cmp (drop at xs) (drop at ys)
rest_decides at xs ys same =
    ap (λ (zs : List ℕ). slice_cmp nat_cmp zs ys) (sym (take-append-drop at xs))
    ∙ ap (λ (zs : List ℕ). slice_cmp nat_cmp (take at xs ++ drop at xs) zs)
    (sym (ap (λ (front : List ℕ). front ++ drop at ys) same ∙ take-append-drop at ys))
    ∙ behind (take at xs) (drop at xs) (drop at ys)

not_apart : (o : Ordering) → is_ne o ≡ false → o ≡ Equal
not_apart Less e = absurd cc
not_apart Equal e = refl
not_apart Greater e = absurd cc

module _ (at both : ℕ) (xs ys : List ℕ) (first : both ≤ length xs) (second : both ≤ length ys)
    (fits : at + 8 ≤ both) (same : take at xs ≡ take at ys) where
  pub ends : {found : Ordering} → found ≡ order_at at xs ys → is_ne found ≡ true → found ≡ slice_cmp nat_cmp xs ys
  ends e apart =
      let left : 8 ≤ length (drop at xs) = rw (length-drop at xs) (omega (arith, first, fits)) in
      let left_too : 8 ≤ length (drop at ys) = rw (length-drop at ys) (omega (arith, second, fits)) in
      e ∙ sym (rest_decides at xs ys same ∙ unequal_first 8 (drop at xs) (drop at ys) left left_too (rw (← e) apart))

  pub same_further : {found : Ordering} → found ≡ order_at at xs ys → is_ne found ≡ false
      → take (at + 8) xs ≡ take (at + 8) ys
  same_further {found} e level_there =
      let word : take 8 (drop at xs) ≡ take 8 (drop at ys) =
      exact_bytes (take 8 (drop at xs)) (take 8 (drop at ys)) (sym e ∙ not_apart found level_there) in
      take-add at 8 xs ∙ ap (λ (front : List ℕ). front ++ take 8 (drop at xs)) same
      ∙ ap (λ (back : List ℕ). take at ys ++ back) word ∙ sym (take-add at 8 ys)

-- fewer of them are equal too
pub fewer : (n at : ℕ) (xs ys : List ℕ) → n ≤ at → take at xs ≡ take at ys → take n xs ≡ take n ys
fewer n at xs ys less same =
    sym (take-take n at xs less) ∙ ap (take n) same ∙ take-take n at ys less

-- one of two texts is at its end
short_first : (xs ys : List ℕ) → min (length xs) (length ys) ≡ 0 → nat_cmp (length xs) (length ys) ≡ slice_cmp nat_cmp xs ys
short_first [] [] e = refl
short_first [] (y ∷ ys) e = below 0 (length (y ∷ ys)) (omega arith)
short_first (x ∷ xs) [] e = above (length (x ∷ xs)) 0 (omega arith)
short_first (x ∷ xs) (y ∷ ys) e = absurd (omega (arith, e))

pub lengths_decide : (both : ℕ) (xs ys : List ℕ) → both ≡ min (length xs) (length ys) → take both xs ≡ take both ys
    → nat_cmp (length xs) (length ys) ≡ slice_cmp nat_cmp xs ys
lengths_decide both xs ys shortest same =
    let first : both + length (drop both xs) ≡ length xs = rw (length-drop both xs) (omega (arith, shortest)) in
    let second : both + length (drop both ys) ≡ length ys = rw (length-drop both ys) (omega (arith, shortest)) in
    ap (λ (n : ℕ). nat_cmp n (length ys)) (sym first)
    ∙ ap (nat_cmp (both + length (drop both xs))) (sym second)
    ∙ shifted both (length (drop both xs)) (length (drop both ys))
    ∙ short_first (drop both xs) (drop both ys) (omega (arith, first, second, shortest))
    ∙ sym (rest_decides both xs ys same)
