-- The first leaves to be tended below nodes, in the node that has them.
use Rattle.std.proofs.Common.{◌≡◌, ℕ, zero, suc, ◌+◌, ◌<◌, ◌≤◌, true, false, List, [], ◌∷◌, ◌++◌, length, get_or, drop, take, Option, Some, None, refl, sym, ap, ◌∙◌, arith, append-nil, inl, inr, true≢false}
use Rattle.std.specs.Option.{option_map, is_some}
use Rattle.std.proofs.Math.Seq.{drop-cons}
use Rattle.std.proofs.lemmas.Bool.{cases_lt}
use Rattle.std.proofs.lemmas.List.{drop_all, get_or_default}
use Rattle.dc_leaf.specs.Leaf.{LeafView}
use Rattle.dc_tree.specs.Choosing.{first_large, first_pair, is_reached, pair_top, extent_first, extent_last, summary_of, both_of}
use Rattle.dc_tree.specs.declared.tree.summary.Extent.{Extent}
use Rattle.dc_tree.specs.Nodes.{TreeNodeView, nothing, under, AreChildren}
use Rattle.dc_tree.specs.Finding.{IsLargeIn, IsPairIn}
use Rattle.dc_tree.proofs.Summed.{summary_append, large_inside, large_past, pair_inside, pair_across, pair_past}
use Rattle.dc_tree.proofs.Under.{under_more}
use Rattle.dc_tree.proofs.Whole.{all_get, all_take, all_drop, some_under}

-- what is kept of nodes, one node more
pub summary_more : (height : ℕ) (ns : List TreeNodeView) (i : ℕ) → 0 < i → i < length ns → AreChildren height ns
    → summary_of (under (take (suc i) ns)) ≡ both_of (summary_of (under (take i ns)))
    (summary_of (get_or ns i nothing).leaves)
summary_more height ns i some within are =
    ap summary_of (under_more ns i nothing within)
    ∙ summary_append (under (take i ns)) (get_or ns i nothing).leaves
    (some_under height (take i ns) (length_some i ns some within) (all_take _ i ns are))
    (all_get _ ns i nothing within are).whole.some
  where
    length_some : (i : ℕ) (ns : List TreeNodeView) → 0 < i → i < length ns → 0 < length (take i ns)
    length_some i [] some within = absurd (omega (arith, within))
    length_some zero (n ∷ ns) some within = absurd (omega (arith, some))
    length_some (suc i) (n ∷ ns) some within = omega arith

-- the first of leaves with others after them
pub begins : (xs ys : List LeafView) → 0 < length xs → extent_first (xs ++ ys) ≡ extent_first xs
begins [] ys some = absurd (omega (arith, some))
begins (x ∷ xs) ys some = refl

-- a node that was read stands there
pub stands : (ns : List TreeNodeView) (i : ℕ) (n : TreeNodeView) → i < length ns → n ≡ get_or ns i n → n ≡ get_or ns i nothing
stands ns i n within is = is ∙ get_or_default ns i n nothing within

-- none below the nodes that are past
no_more : (o : Option ℕ) (f : ℕ → ℕ) → is_some o ≡ true → o ≡ option_map f None → ⊥
no_more o f some none = true≢false (sym some ∙ ap is_some none)

-- the first ones below the nodes from the i-th on, with so many leaves before these, are the first of all
abbrev pub LargeFrom : ℕ → List TreeNodeView → ℕ → ℕ → Type 0
LargeFrom known ns i before =
    first_large known (under ns) ≡ option_map (λ q. before + q) (first_large known (under (drop i ns)))

abbrev pub PairFrom : ℕ → List TreeNodeView → ℕ → ℕ → Type 0
PairFrom known ns i before =
    first_pair known (under ns) ≡ option_map (λ q. before + q) (first_pair known (under (drop i ns)))

module _ (known : ℕ) (ns : List TreeNodeView) (i before : ℕ) (within : i < length ns) where
  abbrev here : List LeafView
  here = (get_or ns i nothing).leaves

  abbrev rest : List LeafView
  rest = under (drop (suc i) ns)

  from_here : under (drop i ns) ≡ here ++ rest
  from_here = ap under (drop-cons ns i nothing within)

  -- where it is the last node
  rest_none : length ns ≤ suc i → rest ≡ []
  rest_none last = ap under (drop_all (suc i) ns last)

  large_next : LargeFrom known ns i before → is_some (first_large known here) ≡ false → LargeFrom known ns (suc i) (before + length here)
  large_next so_far none =
      so_far ∙ ap (λ (leaves : List LeafView). option_map (λ q. before + q) (first_large known leaves)) from_here
      ∙ large_past known before here rest none

  pub large_later_node : LargeFrom known ns i before → is_some (first_large known (under ns)) ≡ true
      → is_some (first_large known here) ≡ false
      → (suc i < length ns) × LargeFrom known ns (suc i) (before + length here)
  large_later_node so_far some none =
      let next = large_next so_far none in
      elim (cases_lt (suc i) (length ns)) [
        | inl less ↦ (less, next)
        | inr last ↦ absurd (no_more _ (λ q. before + length here + q) some
            (next ∙ ap (λ (leaves : List LeafView). option_map (λ q. before + length here + q) (first_large known leaves))
            (rest_none last)))
      ]

  pub large_here_node : LargeFrom known ns i before → is_some (first_large known here) ≡ true → IsLargeIn known ns i before
  large_here_node so_far some = record {
    there = within;
    large = some;
    is = λ place is.
        so_far
        ∙ ap (λ (leaves : List LeafView). option_map (λ q. before + q) (first_large known leaves)) from_here
        ∙ large_inside known before here rest place is;
  }

  -- ---- pairs

  module _ (height : ℕ) (are : AreChildren height ns) where
    some_here : 0 < length here
    some_here = (all_get _ ns i nothing within are).whole.some

    some_rest : suc i < length ns → 0 < length rest
    some_rest less = some_under height (drop (suc i) ns) (left ns i less) (all_drop _ (suc i) ns are)
      where
        left : (ns : List TreeNodeView) (i : ℕ) → suc i < length ns → 0 < length (drop (suc i) ns)
        left [] i less = absurd (omega (arith, less))
        left (n ∷ []) i less = absurd (omega (arith, less))
        left (n ∷ m ∷ ns) zero less = omega arith
        left (n ∷ m ∷ ns) (suc i) less = left (m ∷ ns) i (omega (arith, less))

    -- where the node has no pair another one comes after it
    pub pair_not_last : PairFrom known ns i before → is_some (first_pair known (under ns)) ≡ true
        → is_some (first_pair known here) ≡ false → suc i < length ns
    pair_not_last so_far some none =
        elim (cases_lt (suc i) (length ns)) [
          | inl less ↦ less
          | inr last ↦
              let all : under (drop i ns) ≡ here =
              from_here ∙ ap (λ (leaves : List LeafView). here ++ leaves) (rest_none last) ∙ append-nil here in
              absurd (true≢false (sym some ∙ ap is_some so_far ∙ mapped (first_pair known (under (drop i ns)))
              ∙ ap (λ (leaves : List LeafView). is_some (first_pair known leaves)) all ∙ none))
        ]
      where
        mapped : (o : Option ℕ) → is_some (option_map (λ q. before + q) o) ≡ is_some o
        mapped None = refl
        mapped (Some q) = refl

    pub first_rest : suc i < length ns → extent_first rest ≡ extent_first (get_or ns (suc i) nothing).leaves
    first_rest less =
        ap (λ (ms : List TreeNodeView). extent_first (under ms)) (drop-cons ns (suc i) nothing less)
        ∙ begins (get_or ns (suc i) nothing).leaves (under (drop (suc (suc i)) ns))
        (all_get _ ns (suc i) nothing less are).whole.some

    pub pair_next : PairFrom known ns i before → suc i < length ns → is_some (first_pair known here) ≡ false
        → is_reached known (pair_top (extent_last here) (extent_first (get_or ns (suc i) nothing).leaves)) ≡ false
        → PairFrom known ns (suc i) (before + length here)
    pair_next so_far less none apart =
        so_far
        ∙ ap (λ (leaves : List LeafView). option_map (λ q. before + q) (first_pair known leaves)) from_here
        ∙ pair_past known before here rest some_here (some_rest less) none
        (ap (λ (next : Extent). is_reached known (pair_top (extent_last here) next)) (first_rest less) ∙ apart)

    pair_there : PairFrom known ns i before → (place : ℕ) → first_pair known here ≡ Some place
        → first_pair known (under ns) ≡ Some (before + place)
    pair_there so_far place is =
        so_far
        ∙ ap (λ (leaves : List LeafView). option_map (λ q. before + q) (first_pair known leaves)) from_here
        ∙ pair_inside known before here rest place is

    pub pair_here_node : PairFrom known ns i before → is_some (first_pair known here) ≡ true → IsPairIn known ns i before
    pair_here_node so_far some = record {
      there = within;
      inside = pair_there so_far;
      across = λ none. absurd (true≢false (sym some ∙ none));
    }

    pub pair_met_node : PairFrom known ns i before → suc i < length ns
        → is_reached known (pair_top (extent_last here) (extent_first (get_or ns (suc i) nothing).leaves)) ≡ true → IsPairIn known ns i before
    pair_met_node so_far less few = record {
      there = within;
      inside = pair_there so_far;
      across = λ none.
          so_far
          ∙ ap (λ (leaves : List LeafView). option_map (λ q. before + q) (first_pair known leaves)) from_here
          ∙ pair_across known before here rest some_here (some_rest less) none
          (ap (λ (next : Extent). is_reached known (pair_top (extent_last here) next)) (first_rest less) ∙ few);
    }
