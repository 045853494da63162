-- Lists of entries and of numbers: what holds of all, and of all pairs.
use Rattle.std.proofs.lemmas.Grind.{common_steps}
use Rattle.std.proofs.Common.{◌≡◌, ◌≢◌, ℕ, zero, suc, ◌<◌, Bool, true, false, List, [], ◌∷◌, ◌++◌, Some, refl, ap, ◌∙◌, subst, arith, eq-eqb, ne_eqb}
use Rattle.std.specs.Prelude.{◌==◌, ◌&&◌, ◌||◌, filter, map, not, nat_lt, slice_get, take, if◌then◌else◌}
use Rattle.std.specs.List.{AllByRecursion, list_any}
use Rattle.record_key.proofs.Lists.{all_from, all_appended}
use Rattle.history.specs.History.{Entry, placed, numbers_of, is_among}
use Rattle.simulation.specs.View.{standing}
use Rattle.simulation.proofs.Entries.{all_filtered, marked}
use Rattle.serial_laws.proofs.Passing.{Pairs}

pub all_two : {A : Type 0} (P Q R : A → Type 0) (xs : List A) → ((x : A) → P x → Q x → R x) → AllByRecursion P xs
    → AllByRecursion Q xs → AllByRecursion R xs
all_two P Q R [] each p q = tt
all_two P Q R (x ∷ xs) each p q = (each x p.0 q.0, all_two P Q R xs each p.1 q.1)

pub all_true : {A : Type 0} (P : A → Type 0) (xs : List A) → ((x : A) → P x) → AllByRecursion P xs
all_true P [] each = tt
all_true P (x ∷ xs) each = (each x, all_true P xs each)

pub all_first : {A : Type 0} (P : A → Type 0) (xs ys : List A) → AllByRecursion P (xs ++ ys) → AllByRecursion P xs
all_first P [] ys p = tt
all_first P (x ∷ xs) ys p = (p.0, all_first P xs ys p.1)

pub all_second : {A : Type 0} (P : A → Type 0) (xs ys : List A) → AllByRecursion P (xs ++ ys) → AllByRecursion P ys
all_second P [] ys p = p
all_second P (x ∷ xs) ys p = all_second P xs ys p.1

pub all_between : {A : Type 0} (P : A → Type 0) (x : A) (xs ys : List A) → P x → AllByRecursion P (xs ++ ys)
    → AllByRecursion P (xs ++ x ∷ ys)
all_between P x xs ys here all = all_appended P xs (x ∷ ys) (all_first P xs ys all) (here, all_second P xs ys all)

pub all_taken : {A : Type 0} (P : A → Type 0) (n : ℕ) (xs : List A) → AllByRecursion P xs → AllByRecursion P (take n xs)
all_taken h n xs all = grind (arith, common_steps)

pub all_got : {A : Type 0} (P : A → Type 0) (n : ℕ) (xs : List A) (y : A) → AllByRecursion P xs
    → slice_get xs n ≡ Some y → P y
all_got P n [] y all is = absurd (cc)
all_got P zero (x ∷ xs) y all is = let same : x ≡ y = cc in subst P same all.0
all_got P (suc n) (x ∷ xs) y all is = all_got P n xs y all.1 is

-- pairs
pub pairs_two : (P Q R : Entry → Entry → Type 0) (h : List Entry) → ((g e : Entry) → P g e → Q g e → R g e)
    → Pairs P h → Pairs Q h → Pairs R h
pairs_two P Q R [] each p q = tt
pairs_two P Q R (g ∷ h) each p q = (all_two (P g) (Q g) (R g) h (each g) p.0 q.0, pairs_two P Q R h each p.1 q.1)

pub pairs_with : (P : Entry → Type 0) (Q R : Entry → Entry → Type 0) (h : List Entry)
    → ((g e : Entry) → P g → P e → Q g e → R g e) → AllByRecursion P h → Pairs Q h → Pairs R h
pairs_with P Q R [] each all q = tt
pairs_with P Q R (g ∷ h) each all q = grind (arith, pairs_with P Q R h each all.1 q.1, all_two)

pub pairs_all : (P : Entry → Type 0) (R : Entry → Entry → Type 0) (h : List Entry)
    → ((g e : Entry) → P g → P e → R g e) → AllByRecursion P h → Pairs R h
pairs_all P R [] each all = tt
pairs_all P R (g ∷ h) each all = grind (arith, pairs_all P R h each all.1, all_from)

pub pairs_filtered : (R : Entry → Entry → Type 0) (p : Entry → Bool) (h : List Entry) → Pairs R h
    → Pairs R (filter p h)
pairs_filtered R p [] all = tt
pairs_filtered R p (g ∷ h) all = grind (arith, pairs_filtered R p h all.1, all_filtered)

pub pairs_between : (R : Entry → Entry → Type 0) (x : Entry) (newer older : List Entry)
    → AllByRecursion (λ g. R g x) newer → AllByRecursion (R x) older → Pairs R (newer ++ older)
    → Pairs R (newer ++ x ∷ older)
pairs_between R x [] older above below all = (below, all)
pairs_between R x (g ∷ newer) older above below all =
    (all_between (R g) x newer older above.0 all.0, pairs_between R x newer older above.1 below all.1)

-- what a test takes passes it
pub passed : (p : Entry → Bool) (h : List Entry) → AllByRecursion (λ e. p e ≡ true) (filter p h)
passed p [] = tt
passed p (e ∷ h) = grind (arith, passed p h)

-- tests
pub and_parts : (a b : Bool) → (a && b) ≡ true → (a ≡ true) × (b ≡ true)
and_parts a b h = grind arith

pub not_true : (b : Bool) → not b ≡ true → b ≡ false
not_true b h = grind arith

pub not_false : (b : Bool) → not b ≡ false → b ≡ true
not_false b h = grind arith

-- numbers
pub among_there : (j n : ℕ) (xs : List ℕ) → is_among j xs ≡ true → is_among j (n ∷ xs) ≡ true
among_there j n xs h = grind arith

pub among_here : (j n : ℕ) (xs : List ℕ) → n ≡ j → is_among j (n ∷ xs) ≡ true
among_here j n xs e = ap (λ (b : Bool). b || list_any (λ m. m == j) xs) (eq-eqb n j e)

pub among_none : (j n : ℕ) (xs : List ℕ) → n ≢ j → is_among j (n ∷ xs) ≡ is_among j xs
among_none j n xs e = ap (λ (b : Bool). b || list_any (λ m. m == j) xs) (ne_eqb n j e)

pub among_below : (k : ℕ) (xs : List ℕ) → AllByRecursion (λ j. j < k) xs → is_among k xs ≡ false
among_below k [] all = refl
among_below k (j ∷ xs) all =
    among_none k j xs (λ e. omega (arith, e, all.0)) ∙ among_below k xs all.1

-- an entry that stands is among its transaction's numbers
pub among_own : (t : ℕ) (h : List Entry)
    → AllByRecursion (λ e. e.txn ≡ t → is_among e.number (numbers_of t h) ≡ true) (standing h)
among_own t [] = tt
among_own t (e ∷ h) = grind (arith, among_own t h, among_there, all_from, eq-eqb, among_here)

-- and its numbers are below what all numbers are below
pub own_below : (t n : ℕ) (h : List Entry) → AllByRecursion (λ e. e.number < n) h
    → AllByRecursion (λ j. j < n) (numbers_of t h)
own_below t n h all = mapped (filter (λ e. e.txn == t) h) (all_filtered (λ e. e.number < n) (λ e. e.txn == t) h all)
  where
    mapped : (k : List Entry) → AllByRecursion (λ e. e.number < n) k
        → AllByRecursion (λ j. j < n) (map (λ e. e.number) k)
    mapped [] all = tt
    mapped (e ∷ k) all = (all.0, mapped k all.1)

pub unplaced : (P : Entry → Type 0) (e : Entry) (h : List Entry) → AllByRecursion P (placed e h) → AllByRecursion P h
unplaced P e [] all = tt
unplaced P e (f ∷ h) all = pick (nat_lt f.number e.number) (unplaced P e h) all
  where
    pick : (b : Bool) → (AllByRecursion P (placed e h) → AllByRecursion P h)
        → AllByRecursion P (if b then e ∷ f ∷ h else f ∷ placed e h)
        → AllByRecursion P (f ∷ h)
    pick true rest all = all.1
    pick false rest all = (all.0, rest all.1)

pub unmarked_below : (n : ℕ) (f : ℕ → ℕ → Bool) (h : List Entry)
    → AllByRecursion (λ e. e.number < n) (map (marked f) h) → AllByRecursion (λ e. e.number < n) h
unmarked_below n f [] all = tt
unmarked_below n f (e ∷ h) all = (all.0, unmarked_below n f h all.1)
