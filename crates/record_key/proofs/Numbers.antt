-- The order of bytes, read as numbers and with zeros after them.
use Rattle.std.proofs.Common.{◌≡◌, ◌<◌, ◌≤◌, ℕ, zero, suc, ◌+◌, ◌*◌, ◌^◌, List, [], ◌∷◌, length, take, drop, slice_index, refl, sym, ap, subst, ◌∙◌, arith, mul-le-mul_right, true, true≢false}
use Rattle.std.specs.Ordering.{nat_cmp, ordering_then, is_ne, MatchOrdering}
use Rattle.std.specs.Cmp.Lexicographic.{slice_cmp}
use Rattle.std.specs.declared.cmp.Ordering.{Ordering}
use Rattle.std.specs.declared.cmp.Ordering.TheVariants.{Less, Equal, Greater}
use Rattle.std.specs.Cmp.{nat_cmp_total}
use Rattle.std.proofs.lemmas.Cmp.{ranked, tied_itself}
use Rattle.byteorder.specs.Endian.{big_from}
use Rattle.byteorder.specs.Numbers.{big_from-cons, big_from-lt}

is_less : (x y : ℕ) (r : Ordering) → MatchOrdering r (x < y) (x ≡ y) (y < x) → x < y → r ≡ Less
is_less x y Less h l = refl
is_less x y Equal h l = let e : x ≡ y = h in absurd (omega arith)
is_less x y Greater h l = let e : y < x = h in absurd (omega arith)

is_greater : (x y : ℕ) (r : Ordering) → MatchOrdering r (x < y) (x ≡ y) (y < x) → y < x → r ≡ Greater
is_greater x y Less h l = let e : x < y = h in absurd (omega arith)
is_greater x y Equal h l = let e : x ≡ y = h in absurd (omega arith)
is_greater x y Greater h l = refl

pub below : (x y : ℕ) → x < y → nat_cmp x y ≡ Less
below x y = is_less x y (nat_cmp x y) (ranked x y _ refl)

pub above : (x y : ℕ) → y < x → nat_cmp x y ≡ Greater
above x y = is_greater x y (nat_cmp x y) (ranked x y _ refl)

pub nat_cmp-itself : (x : ℕ) → nat_cmp x x ≡ Equal
nat_cmp-itself x = tied_itself nat_cmp_total x

-- two numbers above the same one lie as what they have more
pub shifted : (c x y : ℕ) → nat_cmp (c + x) (c + y) ≡ nat_cmp x y
shifted c x y = by (nat_cmp x y) refl (ranked x y _ refl)
  where
    by : (o : Ordering) → nat_cmp x y ≡ o → MatchOrdering o (x < y) (x ≡ y) (y < x)
        → nat_cmp (c + x) (c + y) ≡ nat_cmp x y
    by Less e l = let m : x < y = l in below (c + x) (c + y) (omega arith) ∙ sym e
    by Greater e l = let m : y < x = l in above (c + x) (c + y) (omega arith) ∙ sym e
    by Equal e l =
        let same : x ≡ y = l in
        subst (λ z. nat_cmp (c + x) (c + z) ≡ nat_cmp x z) same (nat_cmp-itself (c + x) ∙ sym (nat_cmp-itself x))

abbrev pub AreBytes : List ℕ → Type 0
AreBytes xs = (k : ℕ) → slice_index xs k < 256

-- as many bytes lie to one another as the numbers that they spell
pub number_order : (n : ℕ) (xs ys : List ℕ) → AreBytes xs → AreBytes ys → n ≤ length xs → n ≤ length ys
    → nat_cmp (big_from 0 n xs) (big_from 0 n ys) ≡ slice_cmp nat_cmp (take n xs) (take n ys)
number_order zero xs ys bx by p q = refl
number_order (suc n) [] ys bx by p q = absurd (omega arith)
number_order (suc n) (x ∷ xs) [] bx by p q = absurd (omega arith)
number_order (suc n) (x ∷ xs) (y ∷ ys) bx by p q =
    rw (big_from-cons 0 n x xs, big_from-cons 0 n y ys)
    (lies (number_order n xs ys (λ k. bx (suc k)) (λ k. by (suc k)) (omega arith) (omega arith)) (nat_cmp x y) refl
    (ranked x y _ refl))
  where
    r : ℕ
    r = big_from 0 n xs

    s : ℕ
    s = big_from 0 n ys

    o : Ordering
    o = slice_cmp nat_cmp (take n xs) (take n ys)

    small : r < 256 ^ n
    small = big_from-lt 0 n xs (λ k. bx (suc k))

    small_too : s < 256 ^ n
    small_too = big_from-lt 0 n ys (λ k. by (suc k))

    lies : nat_cmp r s ≡ o → (first : Ordering) → nat_cmp x y ≡ first → MatchOrdering first (x < y) (x ≡ y) (y < x)
        → nat_cmp (x * 256 ^ n + r) (y * 256 ^ n + s) ≡ ordering_then (nat_cmp x y) o
    lies rest Less e l =
        let under : suc x ≤ y = l in
        let far : suc x * 256 ^ n ≤ y * 256 ^ n = mul-le-mul_right (256 ^ n) under in
        below (x * 256 ^ n + r) (y * 256 ^ n + s) (omega (arith, small, far)) ∙ ap (λ f. ordering_then f o) (sym e)
    lies rest Greater e l =
        let over : suc y ≤ x = l in
        let far : suc y * 256 ^ n ≤ x * 256 ^ n = mul-le-mul_right (256 ^ n) over in
        above (x * 256 ^ n + r) (y * 256 ^ n + s) (omega (arith, small_too, far)) ∙ ap (λ f. ordering_then f o) (sym e)
    lies rest Equal e l =
        let level : x ≡ y = l in
        ap (λ z. nat_cmp (x * 256 ^ n + r) (z * 256 ^ n + s)) (sym level) ∙ shifted (x * 256 ^ n) r s ∙ rest
        ∙ ap (λ f. ordering_then f o) (sym e)

-- the first bytes decide, then the others
pub order_parts : (n : ℕ) (xs ys : List ℕ) → n ≤ length xs → n ≤ length ys
    → slice_cmp nat_cmp xs ys
    ≡ ordering_then (slice_cmp nat_cmp (take n xs) (take n ys)) (slice_cmp nat_cmp (drop n xs) (drop n ys))
order_parts zero xs ys p q = refl
order_parts (suc n) [] ys p q = absurd (omega arith)
order_parts (suc n) (x ∷ xs) [] p q = absurd (omega arith)
order_parts (suc n) (x ∷ xs) (y ∷ ys) p q =
    ap (ordering_then (nat_cmp x y)) (order_parts n xs ys (omega arith) (omega arith)) ∙ thrice (nat_cmp x y) _ _
  where
    thrice : (a b c : Ordering) → ordering_then a (ordering_then b c) ≡ ordering_then (ordering_then a b) c
    thrice Less b c = refl
    thrice Equal b c = refl
    thrice Greater b c = refl

-- where the first bytes differ they decide
pub unequal_first : (n : ℕ) (xs ys : List ℕ) → n ≤ length xs → n ≤ length ys
    → is_ne (slice_cmp nat_cmp (take n xs) (take n ys)) ≡ true
    → slice_cmp nat_cmp xs ys ≡ slice_cmp nat_cmp (take n xs) (take n ys)
unequal_first n xs ys p q h = order_parts n xs ys p q ∙ stops _ _ h
  where
    stops : (a b : Ordering) → is_ne a ≡ true → ordering_then a b ≡ a
    stops Less b h = refl
    stops Equal b h = absurd (true≢false (sym h))
    stops Greater b h = refl

pub window_bytes : (at : ℕ) (xs : List ℕ) → AreBytes xs → AreBytes (drop at xs)
window_bytes zero xs h = h
window_bytes (suc at) [] h = h
window_bytes (suc at) (x ∷ xs) h = window_bytes at xs (λ k. h (suc k))
