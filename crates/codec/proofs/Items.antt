-- Items one after the other: as a loop reads them, and as they are spelled.
use Rattle.std.proofs.Common.{◌≡◌, ℕ, zero, suc, ◌-◌, ◌+◌, ◌^◌, ◌≤◌, ◌<◌, List, [], ◌∷◌, ◌++◌, length, Option, Some, None, refl, sym, ap, subst, ◌∙◌, append_assoc, arith}
use Rattle.std.specs.List.{flat_map, AllByRecursion}
use Rattle.std.proofs.lemmas.List.{append-nil}
use Rattle.std.proofs.lemmas.List.Concat.{flat_map-cons}
use Rattle.std.proofs.lemmas.Option.{same_Some}
use Rattle.codec.specs.Fields.{number, counted}
use Rattle.codec.specs.Reading.{◌>>=◌, Reader, count_at, items_at, counted_at}
use Rattle.codec.proofs.Readers.{IsBytes, Takes, Takes-then, IsReader, bind_some}
use Rattle.codec.proofs.Fields.{count_reads}

-- what was read before, and what is still read
abbrev pub with_front : {X : Type 0} → List X → Option (List X × List ℕ) → Option (List X × List ℕ)
with_front front read = read >>= λ x. Some (front ++ x.0, x.1)

regroup : {X : Type 0} (front : List X) (n : X) (read : Option (List X × List ℕ))
    → with_front front (read >>= λ x. Some (n ∷ x.0, x.1)) ≡ with_front (front ++ n ∷ []) read
regroup {X = X} front n (Some x) = ap (λ (ns : List X). Some (ns, x.1)) (simp append_assoc)
regroup front n None = refl

pub goes_on : {X : Type 0} (part : Reader X) (front : List X) (count i : ℕ) (bytes : List ℕ) (n : X) (after : List ℕ)
    (total : Option (List X × List ℕ))
    → i < count → part bytes ≡ Some (n, after)
    → with_front front (items_at part (count - i) bytes) ≡ total
    → with_front (front ++ n ∷ []) (items_at part (count - (i + 1)) after) ≡ total
unfolding items_at
goes_on part front count i bytes n after total lt h so_far =
    let k : count - i ≡ suc (count - (i + 1)) = omega arith in
    let one : with_front front (items_at part (count - i) bytes)
    ≡ with_front (front ++ n ∷ []) (items_at part (count - (i + 1)) after) =
    rw (k, h) (regroup front n (items_at part (count - (i + 1)) after)) in
    sym one ∙ so_far

pub ends : {X : Type 0} (part : Reader X) (front : List X) (count i : ℕ) (bytes : List ℕ)
    (total : Option (List X × List ℕ))
    → i < count → part bytes ≡ None
    → with_front front (items_at part (count - i) bytes) ≡ total → total ≡ None
unfolding items_at
ends part front count i bytes total lt h so_far =
    let k : count - i ≡ suc (count - (i + 1)) = omega arith in
    let one : with_front front (items_at part (count - i) bytes) ≡ None = rw (k, h) refl in
    sym so_far ∙ one

pub is_done : {X : Type 0} (part : Reader X) (front : List X) (count i : ℕ) (bytes : List ℕ)
    (total : Option (List X × List ℕ))
    → count ≤ i → with_front front (items_at part (count - i) bytes) ≡ total → total ≡ Some (front, bytes)
unfolding items_at
is_done {X = X} part front count i bytes total le so_far =
    let k : count - i ≡ 0 = omega arith in
    let one : with_front front (items_at part (count - i) bytes) ≡ Some (front, bytes) =
    rw k (ap (λ (ns : List X). Some (ns, bytes)) (append-nil front)) in
    sym so_far ∙ one

-- ---- the laws

pub items_take : (X : Type 0) (spell : X → List ℕ) (Fits : X → Type 0) (part : Reader X) → IsReader X spell Fits part →
    (n : ℕ) (bytes : List ℕ) (x : List X × List ℕ) → IsBytes bytes → items_at part n bytes ≡ Some x
    → Takes bytes (flat_map spell x.0) x.1 × (length x.0 ≡ n) × AllByRecursion Fits x.0
unfolding items_at
items_take X spell Fits part law zero bytes x fits e =
    let made : List X × List ℕ = ([], bytes) in
    subst (λ (y : List X × List ℕ). Takes bytes (flat_map spell y.0) y.1 × (length y.0 ≡ 0) × AllByRecursion Fits y.0)
    (same_Some made x e) (record { parts = refl; rest_fits = fits }, refl, tt)
items_take X spell Fits part law (suc n) bytes x fits e =
    let a = bind_some (part bytes) (λ first. items_at part n first.1 >>= λ others. Some (first.0 ∷ others.0, others.1))
    x e in
    let b = bind_some (items_at part n a.0.1) (λ others. Some (a.0.0 ∷ others.0, others.1)) x a.2 in
    let first = law.takes bytes a.0 fits a.1 in
    let second = items_take X spell Fits part law n a.0.1 b.0 first.0.rest_fits b.1 in
    let both = Takes-then bytes (spell a.0.0) a.0.1 (flat_map spell b.0.0) b.0.1 first.0 second.0 in
    let made : List X × List ℕ = (a.0.0 ∷ b.0.0, b.0.1) in
    subst (λ (y : List X × List ℕ). Takes bytes (flat_map spell y.0) y.1 × (length y.0 ≡ suc n)
    × AllByRecursion Fits y.0) (same_Some made x b.2) (rw flat_map-cons both, ap suc second.1, (first.1, second.2))

pub items_again : (X : Type 0) (spell : X → List ℕ) (Fits : X → Type 0) (part : Reader X) → IsReader X spell Fits part →
    (xs : List X) (rest : List ℕ) → AllByRecursion Fits xs
    → items_at part (length xs) (flat_map spell xs ++ rest) ≡ Some (xs, rest)
unfolding items_at
items_again X spell Fits part law [] rest fits = refl
items_again X spell Fits part law (x ∷ xs) rest fits =
    let regrouped : flat_map spell (x ∷ xs) ++ rest ≡ spell x ++ (flat_map spell xs ++ rest) =
    ap (λ (t : List ℕ). t ++ rest) (flat_map-cons spell x xs) ∙ append_assoc (spell x) (flat_map spell xs) rest in
    ap (items_at part (suc (length xs))) regrouped
    ∙ rw (law.again x (flat_map spell xs ++ rest) fits.0, items_again X spell Fits part law xs rest fits.1) refl

-- ---- behind their count

pub counted_reads : (X : Type 0) (spell : X → List ℕ) (Fits : X → Type 0) (part : Reader X)
    → IsReader X spell Fits part →
    IsReader (List X) (counted spell) (λ xs. (length xs < 2 ^ 64) × AllByRecursion Fits xs) (counted_at part)
counted_reads X spell Fits part law = record {
  takes = λ bytes x fits e.
      let a = bind_some (count_at bytes) (λ n. items_at part n.0 n.1) x e in
      let front = count_reads.takes bytes a.0 fits a.1 in
      let each = items_take X spell Fits part law a.0.0 a.0.1 x front.0.rest_fits a.2 in
      let whole = Takes-then bytes (number a.0.0) a.0.1 (flat_map spell x.0) x.1 front.0 each.0 in
      let few : length x.0 < 2 ^ 64 = omega (arith, each.1, front.1) in
      (subst (λ (k : ℕ). Takes bytes (number k ++ flat_map spell x.0) x.1) (sym each.1) whole, (few, each.2));
  again = λ xs rest fits.
      ap (counted_at part) (append_assoc (number (length xs)) (flat_map spell xs) rest)
      ∙ rw (count_reads.again (length xs) (flat_map spell xs ++ rest) fits.0)
      (items_again X spell Fits part law xs rest fits.1);
}
