-- How many of the parts that tile the keys hold a key.
use Rattle.std.proofs.Common.{◌≡◌, ℕ, ◌+◌, ◌&&◌, Bool, true, false, List, [], ◌∷◌, length, filter, Option, Some, None, not, refl, sym, ap, ◌∙◌, arith, true≢false}
use Rattle.std.specs.Prelude.{if◌then◌else◌}
use Rattle.record_key.specs.Table.{Bytes}
use Rattle.record_key.specs.Order.{is_below, starts_at_most, ends_above}
use Rattle.dc_leaf.specs.Tiles.{Part, holds, starts_below, TileFrom}
use Rattle.dc_leaf.proofs.Halves.{below_trans}
use Rattle.dc_recovery.proofs.Splitting.{Rest}

-- one for a part that holds the key
abbrev number_of : Bool → ℕ
number_of b = if b then 1 else 0

more_by : (b : Bool) (p : Part) (ps : List Part) → length (if b then p ∷ ps else ps) ≡ number_of b + length ps
more_by true p ps = omega arith
more_by false p ps = omega arith

last_number : (b : Bool) → number_of (b && true) + 0 ≡ number_of b
last_number true = refl
last_number false = refl

split_number : (a b : Bool) → (a ≡ false → b ≡ true) → number_of (a && b) + number_of (not b) ≡ number_of a
split_number true true h = refl
split_number true false h = refl
split_number false true h = refl
split_number false false h = absurd (true≢false (sym (h refl)))

low_under : (low : Option Bytes) (k h : Bytes) → starts_below low h ≡ true → starts_at_most low k ≡ false
    → is_below k h ≡ true
low_under None k h above out = absurd (true≢false out)
low_under (Some low) k h above out = below_trans k low h (negated (is_below k low) out) above
  where
    negated : (b : Bool) → not b ≡ false → b ≡ true
    negated true h = refl
    negated false h = absurd (true≢false h)

-- the parts from this one on
after_it : (low high : Option Bytes) (k : Bytes) (ps : List Part) → Rest low high ps
    → ((h : Bytes) → TileFrom (Some h) ps → length (filter (holds k) ps) ≡ number_of (starts_at_most (Some h) k))
    → number_of (starts_at_most low k && ends_above high k) + length (filter (holds k) ps) ≡ number_of
    (starts_at_most low k)
after_it low None k ps r later = rw (r) (last_number (starts_at_most low k))
after_it low (Some h) k ps r later =
    rw (later h r.1) (split_number (starts_at_most low k) (is_below k h) (λ out. low_under low k h r.0 out))

pub holders : (k : Bytes) (ps : List Part) (from : Option Bytes) → TileFrom from ps
    → length (filter (holds k) ps) ≡ number_of (starts_at_most from k)
holders k [] from tile = absurd tile
holders k (p ∷ ps) from tile =
    more_by (holds k p) p (filter (holds k) ps)
    ∙ after_it p.low p.high k ps tile.1 (λ h r. holders k ps (Some h) r)
    ∙ ap (λ (x : Option Bytes). number_of (starts_at_most x k)) tile.0
