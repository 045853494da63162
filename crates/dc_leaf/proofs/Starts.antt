-- Keys above a low fence.
use Rattle.std.proofs.Common.{◌≡◌, true, List, [], ◌∷◌, Option, Some, None, refl, ap, ◌∙◌}
use Rattle.std.specs.Prelude.{not}
use Rattle.std.specs.Ordering.{is_lt, ordering_reverse}
use Rattle.std.proofs.lemmas.Bool.{and_from}
use Rattle.std.proofs.lemmas.Cmp.{nat_list_cmp_total}
use Rattle.record_key.specs.Table.{Bytes}
use Rattle.record_key.specs.Order.{is_below, starts_at_most, ends_above}
use Rattle.dc_leaf.specs.Leaf.{LeafView, is_in_fences}
use Rattle.dc_leaf.specs.Tiles.{part_of, parts_of, starts_below, IsInside}
use Rattle.dc_leaf.proofs.Halves.{less_of, below_trans}

-- a key strictly above a low fence is at or above it
pub starts_weaker : (low : Option Bytes) (k : Bytes) → starts_below low k ≡ true → starts_at_most low k ≡ true
starts_weaker None k below = refl
starts_weaker (Some low) k below =
    ap (λ o. not (is_lt o)) (nat_list_cmp_total.antisymm k low ∙ ap ordering_reverse (less_of low k below))

-- and so is a further one
pub starts_further : (low : Option Bytes) (k further : Bytes) → starts_below low k ≡ true → is_below k further ≡ true
    → starts_below low further ≡ true
starts_further None k further below more = refl
starts_further (Some low) k further below more = below_trans low k further below more

-- a cut inside a leaf's part is one of its keys
pub inside_fences : (leaf : LeafView) (cut : Bytes) → IsInside (part_of leaf) cut → is_in_fences leaf cut ≡ true
inside_fences leaf cut inside =
    and_from (starts_at_most leaf.low_fence cut) (ends_above leaf.high_fence cut)
    (starts_weaker leaf.low_fence cut inside.above)
    inside.under

-- no keys are divided among no leaves alone
pub no_parts : (leaves : List LeafView) → parts_of leaves ≡ [] → leaves ≡ []
no_parts [] none = refl
no_parts (leaf ∷ leaves) none = absurd (cc)
