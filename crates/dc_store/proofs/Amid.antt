-- Leaves before and after the one that is split, or the two that are joined.
use Rattle.std.proofs.Common.{◌≡◌, ℕ, zero, suc, true, List, [], ◌∷◌, ◌++◌, get_or, refl, sym, ap, true≢false}
use Rattle.std.specs.List.{AllByRecursion}
use Rattle.dc_leaf.specs.Leaf.{LeafView, first}
use Rattle.dc_leaf.specs.Parting.{upper_of, lower_of, joined_of}
use Rattle.dc_tree.specs.Parting.{middle, may_split, may_split_at, may_merge_at, split_at, merged_at}

pub record IsSplitAmid (leaves : List LeafView) (p : ℕ) : Type 0 where
  pub before : List LeafView
  pub after : List LeafView
  pub all : leaves ≡ before ++ get_or leaves p first ∷ after
  pub may : may_split (get_or leaves p first) ≡ true
  pub new : (id d : ℕ)
      → split_at p id d leaves ≡ before ++ lower_of (get_or leaves p first) (middle (get_or leaves p first)) d
      ∷ upper_of (get_or leaves p first) (middle (get_or leaves p first)) id d ∷ after

pub split_amid : (p : ℕ) (leaves : List LeafView) → may_split_at leaves p ≡ true → IsSplitAmid leaves p
split_amid p [] may = absurd (true≢false (sym may))
split_amid zero (leaf ∷ leaves) may = record { before = []; after = leaves; all = refl; may = may; new = λ id d. refl }
split_amid (suc p) (leaf ∷ leaves) may =
    let rest = split_amid p leaves may in
    record {
      before = leaf ∷ rest.before;
      after = rest.after;
      all = ap (λ (xs : List LeafView). leaf ∷ xs) rest.all;
      may = rest.may;
      new = λ id d. ap (λ (xs : List LeafView). leaf ∷ xs) (rest.new id d);
    }

pub record IsMergedAmid (leaves : List LeafView) (p : ℕ) : Type 0 where
  pub before : List LeafView
  pub after : List LeafView
  pub all : leaves ≡ before ++ get_or leaves p first ∷ get_or leaves (suc p) first ∷ after
  pub new : (d : ℕ)
      → merged_at p d leaves ≡ before ++ joined_of (get_or leaves p first) (get_or leaves (suc p) first) d ∷ after

pub merged_amid : (p : ℕ) (leaves : List LeafView) → may_merge_at leaves p ≡ true → IsMergedAmid leaves p
merged_amid p [] may = absurd (true≢false (sym may))
merged_amid p (leaf ∷ []) may = absurd (true≢false (sym may))
merged_amid zero (left ∷ right ∷ leaves) may = record { before = []; after = leaves; all = refl; new = λ d. refl }
merged_amid (suc p) (left ∷ right ∷ leaves) may =
    let rest = merged_amid p (right ∷ leaves) may in
    record {
      before = left ∷ rest.before;
      after = rest.after;
      all = ap (λ (xs : List LeafView). left ∷ xs) rest.all;
      new = λ d. ap (λ (xs : List LeafView). left ∷ xs) (rest.new d);
    }

-- what those before, the one amid and those after have
pub record AllAmid (P : LeafView → Type 0) (before : List LeafView) (leaf : LeafView) (after : List LeafView) : Type 0
  where
    pub earlier : AllByRecursion P before
    pub here : P leaf
    pub later : AllByRecursion P after

pub all_amid : (P : LeafView → Type 0) (before : List LeafView) (leaf : LeafView) (after : List LeafView)
    → AllByRecursion P (before ++ leaf ∷ after) → AllAmid P before leaf after
all_amid P [] leaf after all = record { earlier = tt; here = all.0; later = all.1 }
all_amid P (x ∷ before) leaf after all =
    let rest = all_amid P before leaf after all.1 in
    record { earlier = (all.0, rest.earlier); here = rest.here; later = rest.later }
