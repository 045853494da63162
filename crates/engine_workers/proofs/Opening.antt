-- How an engine begins.
use Rattle.std.proofs.Common.{◌≡◌, ◌⊎◌, ℕ, ◌+◌, zero, suc, List, [], ◌∷◌, ◌++◌, Some, length, slice_get, refl, ap, sym, ◌∙◌, subst, inl, inr, arith, All, zero-le}
use Rattle.std.proofs.ByRecursion.{all_from_every, every_from_all}
use Rattle.std.specs.List.{AllByRecursion}
use Rattle.boxcar.specs.Table.{Shelves}
use Rattle.engine_sessions.specs.engine_history.specs.declared.place.Place.{Place}
use Rattle.engine_sessions.specs.engine_history.specs.Closing.{below}
use Rattle.engine_sessions.specs.engine_history.specs.Kept.{PlaceKept, PlacesKept}
use Rattle.engine_workers.specs.Opened.{OpenedView, IsNamed, name_at, agreement_name}

-- the agreements from a place on have the names from there on
abbrev pub AgreedFrom : (ℕ → ℕ) → ℕ → List ℕ → Type 0
AgreedFrom names from agreements = (k n : ℕ) → slice_get agreements k ≡ Some n → n ≡ names (from + k + 3)

pub agreed_first : (names : ℕ → ℕ) (from n : ℕ) (agreements : List ℕ) → AgreedFrom names from (n ∷ agreements) → n ≡ names (from + 3)
agreed_first names from n agreements agreed =
    let same : from + 0 + 3 ≡ from + 3 = omega arith in agreed 0 n refl ∙ ap names same

pub agreed_rest : (names : ℕ → ℕ) (from n : ℕ) (agreements : List ℕ) → AgreedFrom names from (n ∷ agreements)
    → AgreedFrom names (from + 1) agreements
agreed_rest names from n agreements agreed k m at =
    let same : from + suc k + 3 ≡ from + 1 + k + 3 = omega arith in agreed (suc k) m at ∙ ap names same

-- each of those that are left, one by one
pub all_first : {A : Type 0} (P : A → Type 0) (xs : List A) (x : A) (rest : List A) → xs ≡ x ∷ rest → All P xs
    → P x × All P rest
all_first P xs x rest is all =
    let rec = subst (AllByRecursion P) is (all_from_every P xs (λ k d low less. all k d less)) in
    (rec.0, λ k d less. every_from_all P rest rec.1 k d zero-le less)

get_snoc : {A : Type 0} (xs : List A) (x y : A) (k : ℕ) → slice_get (xs ++ x ∷ []) k ≡ Some y
    → (slice_get xs k ≡ Some y) ⊎ ((k ≡ length xs) × (x ≡ y))
get_snoc [] x y zero at = inr (refl, cc (at))
get_snoc [] x y (suc k) at = absurd (cc (at))
get_snoc (z ∷ xs) x y zero at = inl at
get_snoc (z ∷ xs) x y (suc k) at = up (get_snoc xs x y k at)
  where
    up : (slice_get xs k ≡ Some y) ⊎ ((k ≡ length xs) × (x ≡ y))
        → (slice_get xs k ≡ Some y) ⊎ ((suc k ≡ suc (length xs)) × (x ≡ y))
    up (inl there) = inl there
    up (inr last) = inr (ap suc last.0, last.1)

-- one place more
pub places_snoc : {J : Type 0} (entries : Shelves) (names : ℕ → ℕ) (places : List (Place J)) (p : Place J)
    → PlacesKept entries names [] places → PlaceKept entries names [] (length places) p
    → PlacesKept entries names [] (places ++ p ∷ [])
places_snoc entries names places p kept last s q at = one (get_snoc places p q s at)
  where
    one : (slice_get places s ≡ Some q) ⊎ ((s ≡ length places) × (p ≡ q)) → PlaceKept entries names [] s q
    one (inl there) = kept s q there
    one (inr here) = subst (λ (n : ℕ). PlaceKept entries names [] n q) (sym here.0)
        (subst (PlaceKept entries names [] (length places)) here.1 last)

-- the next number follows those below it
pub below_more : (n m : ℕ) (ns : List ℕ) → ns ≡ below n → m ≡ n → ns ++ m ∷ [] ≡ below (n + 1)
below_more n m ns all same =
    let next : n + 1 ≡ suc n = omega arith in (λ i. all i ++ same i ∷ []) ∙ ap below (sym next)

name_there : (names : List ℕ) (k n : ℕ) → slice_get names k ≡ Some n → n ≡ name_at names k
name_there [] k n at = absurd (cc (at))
name_there (x ∷ names) zero n at = let same : x ≡ n = cc (at) in sym same
name_there (x ∷ names) (suc k) n at = name_there names k n at

-- the names that it has are names that it goes by
pub named_as : (o : OpenedView) → IsNamed o o.start o.entries o.marks (agreement_name o) (length o.sessions)
named_as o = record {
  start_is = refl;
  entries_are = refl;
  marks_are = refl;
  tc = refl;
  dc = refl;
  own = refl;
  agreed = λ k n at.
      let same : suc (suc (suc k)) ≡ k + 3 = omega arith in name_there o.sessions k n at ∙ ap (agreement_name o) same;
  count = refl;
}
