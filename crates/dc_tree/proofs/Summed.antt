-- What is kept of leaves tells which is tended first, and sums up where others stand after them.
use Rattle.std.proofs.Common.{◌≡◌, ℕ, suc, ◌+◌, ◌-◌, ◌<◌, ◌||◌, Bool, true, false, List, [], ◌∷◌, ◌++◌, length, Option, Some, None, if◌then◌else◌, refl, sym, ap, ◌∙◌, arith, append-nil, inl, inr, true≢false, min, max}
use Rattle.std.specs.Prelude.{◌&&◌, nat_le}
use Rattle.std.specs.Option.{option_map, is_some}
use Rattle.std.proofs.lemmas.Bool.{cases_Bool, cases_lt, le-leb, lt-leb}
use Rattle.dc_leaf.specs.Leaf.{LeafView}
use Rattle.dc_leaf.specs.Tops.{top, are_within}
use Rattle.dc_tree.specs.Choosing.{is_due, are_due, first_large, first_pair, extent_of, large_top, pair_top, least, least_large, least_pair, is_reached, extent_first, extent_last, summary_of, both_of}
use Rattle.dc_tree.specs.declared.tree.summary.Extent.{Extent}
use Rattle.dc_tree.specs.Parting.{is_large, may_join}
use Rattle.dc_tree.proofs.Firsts.{from_start}

-- ---- the lesser of two

reached_least : (known : ℕ) (a b : Option ℕ) → is_reached known (least a b) ≡ (is_reached known a || is_reached known b)
reached_least known None b = refl
reached_least known (Some l) None = or_none (nat_le l known)
  where
    or_none : (b : Bool) → b ≡ (b || false)
    or_none true = refl
    or_none false = refl
reached_least known (Some l) (Some m) =
    elim (cases_lt known l) [
      | inl less ↦ elim (cases_lt known m) [
        | inl both ↦ rw (lt-leb l known less, lt-leb m known both, lt-leb (min l m) known (omega (arith, less, both))) refl
        | inr le ↦ rw (lt-leb l known less, le-leb m known le, le-leb (min l m) known (omega (arith, le))) refl
      ]
      | inr le ↦ rw (le-leb l known le, le-leb (min l m) known (omega (arith, le))) refl
    ]

least_both : (a b c : Option ℕ) → least (least a b) c ≡ least a (least b c)
least_both None b c = refl
least_both (Some l) None c = refl
least_both (Some l) (Some m) None = refl
least_both (Some l) (Some m) (Some n) = ap (λ (k : ℕ). Some k) (omega arith)

-- ---- whether a leaf is to be tended, and two are

large_reached : (known : ℕ) (leaf : LeafView) → is_due known leaf ≡ is_reached known (large_top (extent_of leaf))
large_reached known leaf = by (is_large leaf)
  where
    by : (b : Bool) → (b && nat_le (top leaf) known) ≡ is_reached known (if b then Some (top leaf) else None)
    by true = refl
    by false = refl

within_both : (known l m : ℕ) → (nat_le l known && nat_le m known) ≡ nat_le (max l m) known
within_both known l m =
    elim (cases_lt known l) [
      | inl less ↦ rw (lt-leb l known less, lt-leb (max l m) known (omega (arith, less))) refl
      | inr le ↦ elim (cases_lt known m) [
        | inl less ↦ rw (le-leb l known le, lt-leb m known less, lt-leb (max l m) known (omega (arith, less))) refl
        | inr both ↦ rw (le-leb l known le, le-leb m known both, le-leb (max l m) known (omega (arith, le, both))) refl
      ]
    ]

pair_reached : (known : ℕ) (left right : LeafView)
    → are_due known left right ≡ is_reached known (pair_top (extent_of left) (extent_of right))
pair_reached known left right = by (may_join left right)
  where
    by : (b : Bool)
        → (b && are_within known left right) ≡ is_reached known (if b then Some (max (top left) (top right)) else None)
    by true = within_both known (top left) (top right)
    by false = refl

-- ---- whether there are such

some_mapped : (f : ℕ → ℕ) (o : Option ℕ) → is_some (option_map f o) ≡ is_some o
some_mapped f None = refl
some_mapped f (Some q) = refl

some_of : (b : Bool) (o : Option ℕ) → is_some (if b then Some 0 else option_map (λ p. p + 1) o) ≡ (b || is_some o)
some_of true o = refl
some_of false o = some_mapped (λ p. p + 1) o

pub tells_large : (known : ℕ) (leaves : List LeafView)
    → is_some (first_large known leaves) ≡ is_reached known (least_large leaves)
tells_large known [] = refl
tells_large known (leaf ∷ leaves) =
    some_of (is_due known leaf) (first_large known leaves)
    ∙ (λ i. large_reached known leaf i || tells_large known leaves i)
    ∙ sym (reached_least known (large_top (extent_of leaf)) (least_large leaves))

pub tells_pair : (known : ℕ) (leaves : List LeafView)
    → is_some (first_pair known leaves) ≡ is_reached known (least_pair leaves)
tells_pair known [] = refl
tells_pair known (leaf ∷ []) = refl
tells_pair known (left ∷ right ∷ leaves) =
    some_of (are_due known left right) (first_pair known (right ∷ leaves))
    ∙ (λ i. pair_reached known left right i || tells_pair known (right ∷ leaves) i)
    ∙ sym (reached_least known (pair_top (extent_of left) (extent_of right)) (least_pair (right ∷ leaves)))

-- ---- leaves beside others

large_both : (xs ys : List LeafView) → least_large (xs ++ ys) ≡ least (least_large xs) (least_large ys)
large_both [] ys = refl
large_both (x ∷ xs) ys =
    ap (least (large_top (extent_of x))) (large_both xs ys)
    ∙ sym (least_both (large_top (extent_of x)) (least_large xs) (least_large ys))

pair_both : (x : LeafView) (xs ys : List LeafView) → 0 < length ys
    → least_pair ((x ∷ xs) ++ ys)
    ≡ least (least_pair (x ∷ xs)) (least (pair_top (extent_last (x ∷ xs)) (extent_first ys)) (least_pair ys))
pair_both x xs [] some = absurd (omega (arith, some))
pair_both x [] (y ∷ ys) some = refl
pair_both x (z ∷ xs) (y ∷ ys) some =
    ap (least (pair_top (extent_of x) (extent_of z))) (pair_both z xs (y ∷ ys) some)
    ∙ sym (least_both (pair_top (extent_of x) (extent_of z)) (least_pair (z ∷ xs))
    (least (pair_top (extent_last (z ∷ xs)) (extent_of y)) (least_pair (y ∷ ys))))

pub last_both : (x : LeafView) (xs ys : List LeafView) → 0 < length ys → extent_last ((x ∷ xs) ++ ys) ≡ extent_last ys
last_both x xs [] some = absurd (omega (arith, some))
last_both x [] (y ∷ ys) some = refl
last_both x (z ∷ xs) (y ∷ ys) some = last_both z xs (y ∷ ys) some

pub summary_append : (xs ys : List LeafView) → 0 < length xs → 0 < length ys
    → summary_of (xs ++ ys) ≡ both_of (summary_of xs) (summary_of ys)
summary_append [] ys some more = absurd (omega (arith, some))
summary_append (x ∷ xs) ys some more = λ i. record {
  large = large_both (x ∷ xs) ys i;
  pair = pair_both x xs ys more i;
  first = extent_of x;
  last = last_both x xs ys more i;
}

-- ---- the first of them, among others

-- a place among some things, or among those after them
abbrev or_after : Option ℕ → ℕ → Option ℕ → Option ℕ
or_after (Some p) n after = Some p
or_after None n after = option_map (λ q. n + q) after

shifted : (o : Option ℕ) (n : ℕ) (after : Option ℕ)
    → option_map (λ q. q + 1) (or_after o n after) ≡ or_after (option_map (λ q. q + 1) o) (suc n) after
shifted (Some p) n after = refl
shifted None n None = refl
shifted None n (Some q) = ap (λ (k : ℕ). Some k) (omega arith)

past : (before n : ℕ) (o after : Option ℕ) → is_some o ≡ false
    → option_map (λ q. before + q) (or_after o n after) ≡ option_map (λ q. before + n + q) after
past before n (Some p) after none = absurd (true≢false none)
past before n None None none = refl
past before n None (Some q) none = ap (λ (k : ℕ). Some k) (omega arith)

moved : (before n : ℕ) (o : Option ℕ)
    → option_map (λ q. before + n + q) (option_map (λ q. q + 1) o) ≡ option_map (λ q. before + suc n + q) o
moved before n None = refl
moved before n (Some q) = ap (λ (k : ℕ). Some k) (omega arith)

module _ (known : ℕ) where
  large_append : (xs ys : List LeafView)
      → first_large known (xs ++ ys) ≡ or_after (first_large known xs) (length xs) (first_large known ys)
  large_append [] ys = from_start (first_large known ys)
  large_append (x ∷ xs) ys =
      elim (cases_Bool (is_due known x)) [
        | inl due ↦ rw due refl
        | inr other ↦
            rw other
            (ap (option_map (λ q. q + 1)) (large_append xs ys)
            ∙ shifted (first_large known xs) (length xs) (first_large known ys))
      ]

  -- the first pair of a leaf and those after it
  abbrev pair_from : Extent → List LeafView → Option ℕ
  pair_from leaf ys =
      if is_reached known (pair_top leaf (extent_first ys)) then Some 0
      else option_map (λ q. q + 1) (first_pair known ys)

  pair_next_to : (x y : LeafView) (ys : List LeafView)
      → first_pair known (x ∷ y ∷ ys) ≡ pair_from (extent_of x) (y ∷ ys)
  pair_next_to x y ys =
      ap (λ (b : Bool). if b then Some 0 else option_map (λ q. q + 1) (first_pair known (y ∷ ys)))
      (pair_reached known x y)

  pair_append : (x : LeafView) (xs ys : List LeafView) → 0 < length ys
      → first_pair known ((x ∷ xs) ++ ys)
      ≡ or_after (first_pair known (x ∷ xs)) (length xs) (pair_from (extent_last (x ∷ xs)) ys)
  pair_append x xs [] some = absurd (omega (arith, some))
  pair_append x [] (y ∷ ys) some = pair_next_to x y ys ∙ from_start (pair_from (extent_of x) (y ∷ ys))
  pair_append x (z ∷ xs) (y ∷ ys) some =
      elim (cases_Bool (are_due known x z)) [
        | inl due ↦ rw due refl
        | inr other ↦
            rw other
            (ap (option_map (λ q. q + 1)) (pair_append z xs (y ∷ ys) some)
            ∙ shifted (first_pair known (z ∷ xs)) (length xs) (pair_from (extent_last (z ∷ xs)) (y ∷ ys)))
      ]

  pub large_inside : (before : ℕ) (xs ys : List LeafView) (p : ℕ) → first_large known xs ≡ Some p
      → option_map (λ q. before + q) (first_large known (xs ++ ys)) ≡ Some (before + p)
  large_inside before xs ys p is =
      ap (option_map (λ q. before + q))
      (large_append xs ys ∙ ap (λ (o : Option ℕ). or_after o (length xs) (first_large known ys)) is)

  pub large_past : (before : ℕ) (xs ys : List LeafView) → is_some (first_large known xs) ≡ false
      → option_map (λ q. before + q) (first_large known (xs ++ ys))
      ≡ option_map (λ q. before + length xs + q) (first_large known ys)
  large_past before xs ys none =
      ap (option_map (λ q. before + q)) (large_append xs ys)
      ∙ past before (length xs) (first_large known xs) (first_large known ys) none

  pub pair_inside : (before : ℕ) (xs ys : List LeafView) (p : ℕ) → first_pair known xs ≡ Some p
      → option_map (λ q. before + q) (first_pair known (xs ++ ys)) ≡ Some (before + p)
  pair_inside before [] ys p is = absurd (cc)
  pair_inside before (x ∷ xs) [] p is =
      ap (λ (zs : List LeafView). option_map (λ q. before + q) (first_pair known zs)) (append-nil (x ∷ xs))
      ∙ ap (option_map (λ q. before + q)) is
  pair_inside before (x ∷ xs) (y ∷ ys) p is =
      ap (option_map (λ q. before + q))
      (pair_append x xs (y ∷ ys) (omega arith)
      ∙ ap (λ (o : Option ℕ). or_after o (length xs) (pair_from (extent_last (x ∷ xs)) (y ∷ ys))) is)

  pub pair_across : (before : ℕ) (xs ys : List LeafView) → 0 < length xs → 0 < length ys
      → is_some (first_pair known xs) ≡ false
      → is_reached known (pair_top (extent_last xs) (extent_first ys)) ≡ true
      → option_map (λ q. before + q) (first_pair known (xs ++ ys)) ≡ Some (before + (length xs - 1))
  pair_across before [] ys some more none met = absurd (omega (arith, some))
  pair_across before (x ∷ xs) ys some more none met =
      let here : pair_from (extent_last (x ∷ xs)) ys ≡ Some 0 = rw met refl in
      ap (option_map (λ q. before + q)) (pair_append x xs ys more)
      ∙ past before (length xs) (first_pair known (x ∷ xs)) (pair_from (extent_last (x ∷ xs)) ys) none
      ∙ ap (option_map (λ q. before + length xs + q)) here
      ∙ ap (λ (k : ℕ). Some k) (omega arith)

  pub pair_past : (before : ℕ) (xs ys : List LeafView) → 0 < length xs → 0 < length ys
      → is_some (first_pair known xs) ≡ false
      → is_reached known (pair_top (extent_last xs) (extent_first ys)) ≡ false
      → option_map (λ q. before + q) (first_pair known (xs ++ ys))
      ≡ option_map (λ q. before + length xs + q) (first_pair known ys)
  pair_past before [] ys some more none apart = absurd (omega (arith, some))
  pair_past before (x ∷ xs) ys some more none apart =
      let later : pair_from (extent_last (x ∷ xs)) ys ≡ option_map (λ q. q + 1) (first_pair known ys) =
      rw apart refl in
      ap (option_map (λ q. before + q)) (pair_append x xs ys more)
      ∙ past before (length xs) (first_pair known (x ∷ xs)) (pair_from (extent_last (x ∷ xs)) ys) none
      ∙ ap (option_map (λ q. before + length xs + q)) later
      ∙ moved before (length xs) (first_pair known ys)
