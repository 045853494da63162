-- The top entry of a leaf, and leaves without an entry above a known end.
use Rattle.std.specs.Prelude.{ℕ, Bool, true, ◌&&◌, nat_le, List, [], ◌∷◌}
use Rattle.record_key.specs.Entries.{top_in}
use Rattle.dc_leaf.specs.Leaf.{LeafView}

-- the greatest number of the leaf's entries, 0 where there are none
abbrev pub top : LeafView → ℕ
top leaf = top_in leaf.ab.entries

-- the leaf has no entry above the known end
abbrev pub is_within : ℕ → LeafView → Bool
is_within known leaf = nat_le (top leaf) known

-- neither of two has one, and none of many
abbrev pub are_within : ℕ → LeafView → LeafView → Bool
are_within known left right = is_within known left && is_within known right

abbrev pub all_within : ℕ → List LeafView → Bool
all_within known [] = true
all_within known (leaf ∷ leaves) = is_within known leaf && all_within known leaves
