-- Which leaves are tended first, where those with an entry above a known end are passed over, and what of leaves is
-- kept to find these.
use Rattle.std.specs.Prelude.{ℕ, ◌+◌, ◌&&◌, min, max, nat_le, not, Bool, false, List, [], ◌∷◌, Option, Some, None, if◌then◌else◌}
use Rattle.std.specs.Option.{option_map, is_some}
use Rattle.dc_leaf.specs.Leaf.{LeafView}
use Rattle.dc_leaf.specs.Tops.{top, is_within, are_within}
use Rattle.dc_tree.specs.Parting.{count, is_large, is_many, may_join, are_few}
use Rattle.dc_tree.specs.declared.tree.summary.Extent.{Extent}
use Rattle.dc_tree.specs.declared.tree.summary.Summary.{Summary}

-- the first large leaf without an entry above the known end
abbrev pub is_due : ℕ → LeafView → Bool
is_due known leaf = is_large leaf && is_within known leaf

abbrev pub first_large : ℕ → List LeafView → Option ℕ
first_large known [] = None
first_large known (leaf ∷ leaves) =
    if is_due known leaf then Some 0 else option_map (λ p. p + 1) (first_large known leaves)

-- the first two neighbours that may be joined, neither with such an entry
abbrev pub are_due : ℕ → LeafView → LeafView → Bool
are_due known left right = may_join left right && are_within known left right

abbrev pub first_pair : ℕ → List LeafView → Option ℕ
first_pair known [] = None
first_pair known (leaf ∷ []) = None
first_pair known (left ∷ right ∷ leaves) =
    if are_due known left right then Some 0 else option_map (λ p. p + 1) (first_pair known (right ∷ leaves))

-- how many records a leaf has, and its top entry
abbrev pub extent_of : LeafView → Extent
extent_of leaf = record { count = count leaf; top = top leaf }

-- the top entry of a leaf that is large, and the greater one of two that may be joined
abbrev pub large_top : Extent → Option ℕ
large_top leaf = if is_many leaf.count then Some leaf.top else None

abbrev pub pair_top : Extent → Extent → Option ℕ
pair_top left right = if are_few left.count right.count then Some (max left.top right.top) else None

-- the lesser of two numbers, each of which may be missing
abbrev pub least : Option ℕ → Option ℕ → Option ℕ
least None m = m
least (Some l) None = Some l
least (Some l) (Some m) = Some (min l m)

-- the least of those of all leaves, and of all neighbours
abbrev pub least_large : List LeafView → Option ℕ
least_large [] = None
least_large (leaf ∷ leaves) = least (large_top (extent_of leaf)) (least_large leaves)

abbrev pub least_pair : List LeafView → Option ℕ
least_pair [] = None
least_pair (leaf ∷ []) = None
least_pair (left ∷ right ∷ leaves) = least (pair_top (extent_of left) (extent_of right)) (least_pair (right ∷ leaves))

-- there is such a number, and it is at most the known end
abbrev pub is_reached : ℕ → Option ℕ → Bool
is_reached known None = false
is_reached known (Some top) = nat_le top known

-- the extent of the first leaf, and of the last one
abbrev pub no_extent : Extent
no_extent = record { count = 0; top = 0 }

abbrev pub extent_first : List LeafView → Extent
extent_first [] = no_extent
extent_first (leaf ∷ leaves) = extent_of leaf

abbrev pub extent_last : List LeafView → Extent
extent_last [] = no_extent
extent_last (leaf ∷ []) = extent_of leaf
extent_last (leaf ∷ next ∷ leaves) = extent_last (next ∷ leaves)

-- what tells for every known end whether leaves are to be tended, and decides it where others stand beside them
abbrev pub summary_of : List LeafView → Summary
summary_of leaves = record {
  large = least_large leaves;
  pair = least_pair leaves;
  first = extent_first leaves;
  last = extent_last leaves;
}

-- the same of leaves with others after them
abbrev pub both_of : Summary → Summary → Summary
both_of left right = record {
  large = least left.large right.large;
  pair = least left.pair (least (pair_top left.last right.first) right.pair);
  first = left.first;
  last = right.last;
}

-- no leaf is large and no two may be joined
abbrev pub is_quiet : Summary → Bool
is_quiet s = not (is_some s.large) && not (is_some s.pair)
