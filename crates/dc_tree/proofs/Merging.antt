-- Leaves of which two neighbours are put together.
use Rattle.std.proofs.Common.{◌≡◌, ◌⊎◌, ℕ, zero, suc, ◌+◌, ◌<◌, true, false, List, [], ◌∷◌, length, get_or, Option, Some, None, refl, sym, ◌∙◌, subst, arith, inl, inr, true≢false}
use Rattle.std.specs.List.{AllByRecursion}
use Rattle.std.proofs.lemmas.Bool.{cases_Bool, and_parts, false_from_ne_true, not_from_false, not-true}
use Rattle.record_key.specs.Table.{Bytes}
use Rattle.record_key.specs.Order.{is_below, starts_at_most, ends_above, is_between}
use Rattle.dc_leaf.specs.Leaf.{LeafView, first, IsLeaf, is_in_fences}
use Rattle.dc_leaf.specs.Parting.{joined_of, AreNeighbours}
use Rattle.dc_leaf.specs.Tiles.{parts_of, TileFrom}
use Rattle.dc_leaf.proofs.Halves.{between_lower, between_upper, lower_between, upper_between}
use Rattle.dc_tree.specs.Leaves.{AreLeaves, leaf_at}
use Rattle.dc_tree.specs.Parting.{may_merge_at, merged_at}
use Rattle.dc_leaf.proofs.Starts.{starts_weaker, starts_further}
use Rattle.dc_tree.proofs.Tiling.{GoesOn, cases_tile, tile_last, tile_on}

-- ---- the keys of both

module _ (from : Option Bytes) (left right : LeafView) (rest : List LeafView)
    (on : GoesOn from left (right ∷ rest)) where
  ends_later : ends_above right.high_fence on.fence ≡ true
  ends_later =
      elim (cases_tile (Some on.fence) right rest on.later) [
        | inl last ↦ rw last.ends refl
        | inr next ↦ rw next.ends next.above
      ]

  neighbours_on : AreNeighbours left right
  neighbours_on = record {
    fence = on.fence;
    ends = on.ends;
    begins = on.later.0;
    above = subst (λ (low : Option Bytes). starts_at_most low on.fence ≡ true) (sym on.begins)
        (starts_weaker from on.fence on.above);
    below = ends_later;
  }

  merge_first : (d : ℕ) → TileFrom from (parts_of (joined_of left right d ∷ rest))
  merge_first d =
      elim (cases_tile (Some on.fence) right rest on.later) [
        | inl last ↦
            subst (λ (r : List LeafView). TileFrom from (parts_of (joined_of left right d ∷ r))) (sym last.alone)
            (tile_last from (joined_of left right d) on.begins last.ends)
        | inr next ↦
            tile_on from (joined_of left right d) rest next.fence on.begins next.ends
            (starts_further from on.fence next.fence on.above next.above) next.later
      ]

-- ---- the two that are put together

-- what the pair at a place has
abbrev pub AtPair : (LeafView → LeafView → Type 0) → List LeafView → ℕ → Type 0
AtPair Q [] p = Unit {0}
AtPair Q (leaf ∷ []) p = Unit {0}
AtPair Q (left ∷ right ∷ rest) zero = Q left right
AtPair Q (left ∷ right ∷ rest) (suc p) = AtPair Q (right ∷ rest) p

pub pair_with : (Q R S : LeafView → LeafView → Type 0)
    → ((left right : LeafView) → Q left right → R left right → S left right) → (leaves : List LeafView) (p : ℕ)
    → AtPair Q leaves p → AtPair R leaves p → AtPair S leaves p
pair_with Q R S both [] p one two = tt
pair_with Q R S both (leaf ∷ []) p one two = tt
pair_with Q R S both (left ∷ right ∷ rest) zero one two = both left right one two
pair_with Q R S both (left ∷ right ∷ rest) (suc p) one two = pair_with Q R S both (right ∷ rest) p one two

pub pair_there : (Q : LeafView → LeafView → Type 0) (leaves : List LeafView) (p : ℕ) → AtPair Q leaves p
    → p + 1 < length leaves
    → Q (get_or leaves p first) (get_or leaves (suc p) first)
pair_there Q [] p pair within = absurd (omega (arith, within))
pair_there Q (leaf ∷ []) p pair within = absurd (omega (arith, within))
pair_there Q (left ∷ right ∷ rest) zero pair within = pair
pair_there Q (left ∷ right ∷ rest) (suc p) pair within = pair_there Q (right ∷ rest) p pair (omega (arith, within))

pub pair_all : (P : LeafView → Type 0) (leaves : List LeafView) (p : ℕ) → AllByRecursion P leaves
    → AtPair (λ left right. P left × P right) leaves p
pair_all P [] p all = tt
pair_all P (leaf ∷ []) p all = tt
pair_all P (left ∷ right ∷ rest) zero all = (all.0, all.1.0)
pair_all P (left ∷ right ∷ rest) (suc p) all = pair_all P (right ∷ rest) p all.1

at_next : (Q : LeafView → LeafView → Type 0) (leaves : List LeafView) (p : ℕ)
    → Q (get_or leaves p first) (get_or leaves (suc p) first) → AtPair Q leaves p
at_next Q [] p both = tt
at_next Q (leaf ∷ []) p both = tt
at_next Q (left ∷ right ∷ rest) zero both = both
at_next Q (left ∷ right ∷ rest) (suc p) both = at_next Q (right ∷ rest) p both

next_is : (p : ℕ) → p + 1 ≡ suc p
next_is p = omega arith

pub at_pair : (Q : LeafView → LeafView → Type 0) (leaves : List LeafView) (p : ℕ)
    → Q (get_or leaves p first) (get_or leaves (p + 1) first) → AtPair Q leaves p
at_pair Q leaves p both =
    at_next Q leaves p (subst (λ n. Q (get_or leaves p first) (get_or leaves n first)) (next_is p) both)

-- what a pair has, the leaf at the place and the one after it have
pub both_there : (Q : LeafView → LeafView → Type 0) (leaves : List LeafView) (p : ℕ) → AtPair Q leaves p
    → p + 1 < length leaves
    → Q (get_or leaves p first) (get_or leaves (p + 1) first)
both_there Q leaves p pair within =
    subst (λ n. Q (get_or leaves p first) (get_or leaves n first)) (sym (next_is p)) (pair_there Q leaves p pair within)

pair_next : (from : Option Bytes) (leaves : List LeafView) (p : ℕ) → TileFrom from (parts_of leaves)
    → AtPair AreNeighbours leaves p
pair_next from [] p tile = tt
pair_next from (leaf ∷ []) p tile = tt
pair_next from (left ∷ right ∷ rest) zero tile =
    elim (cases_tile from left (right ∷ rest) tile) [
      | inl last ↦ absurd (let no : right ∷ rest ≡ [] = last.alone in cc)
      | inr on ↦ neighbours_on from left right rest on
    ]
pair_next from (left ∷ right ∷ rest) (suc p) tile =
    elim (cases_tile from left (right ∷ rest) tile) [
      | inl last ↦ absurd (let no : right ∷ rest ≡ [] = last.alone in cc)
      | inr on ↦ pair_next (Some on.fence) (right ∷ rest) p on.later
    ]

-- two leaves that may be put together
pub record AreJoinable (left right : LeafView) : Type 0 where
  pub next : AreNeighbours left right
  pub left_kept : IsLeaf left
  pub right_kept : IsLeaf right

pub joinable : (leaves : List LeafView) (p : ℕ) → AreLeaves leaves → AtPair AreJoinable leaves p
joinable leaves p kept =
    pair_with AreNeighbours (λ left right. IsLeaf left × IsLeaf right) AreJoinable
    (λ left right next each. record { next = next; left_kept = each.0; right_kept = each.1 }) leaves p
    (pair_next None leaves p kept.tile) (pair_all IsLeaf leaves p kept.each)

-- what the leaf of both has and the others had, all have
pub all_merged : (P : LeafView → Type 0) (d : ℕ) (leaves : List LeafView) (p : ℕ)
    → AtPair (λ left right. P (joined_of left right d)) leaves p → AllByRecursion P leaves
    → AllByRecursion P (merged_at p d leaves)
all_merged P d [] p here all = tt
all_merged P d (leaf ∷ []) p here all = all
all_merged P d (left ∷ right ∷ rest) zero here all = (here, all.1.1)
all_merged P d (left ∷ right ∷ rest) (suc p) here all = (all.0, all_merged P d (right ∷ rest) p here all.1)

-- ---- the keys of all

pub tile_merged : (from : Option Bytes) (leaves : List LeafView) (p d : ℕ) → TileFrom from (parts_of leaves)
    → may_merge_at leaves p ≡ true
    → TileFrom from (parts_of (merged_at p d leaves))
tile_merged from [] p d tile may = absurd tile
tile_merged from (leaf ∷ []) p d tile may = absurd (true≢false (sym may))
tile_merged from (left ∷ right ∷ rest) zero d tile may =
    elim (cases_tile from left (right ∷ rest) tile) [
      | inl last ↦ absurd (let no : right ∷ rest ≡ [] = last.alone in cc)
      | inr on ↦ merge_first from left right rest on d
    ]
tile_merged from (left ∷ right ∷ rest) (suc p) d tile may =
    elim (cases_tile from left (right ∷ rest) tile) [
      | inl last ↦ absurd (let no : right ∷ rest ≡ [] = last.alone in cc)
      | inr on ↦
          tile_on from left (merged_at p d (right ∷ rest)) on.fence on.begins on.ends on.above
          (tile_merged (Some on.fence) (right ∷ rest) p d on.later may)
    ]

-- ---- the leaf of a key

-- the key lay in the left one of two that are one leaf now
pub record HasLeft (Q : LeafView → LeafView → Type 0) (d : ℕ) (old new : LeafView) (k : Bytes) : Type 0 where
  pub right : LeafView
  pub pair : Q old right
  pub held : is_in_fences old k ≡ true
  pub is : new ≡ joined_of old right d

-- or in the right one
pub record HasRight (Q : LeafView → LeafView → Type 0) (d : ℕ) (old new : LeafView) (k : Bytes) : Type 0 where
  pub left : LeafView
  pub pair : Q left old
  pub held : is_in_fences old k ≡ true
  pub is : new ≡ joined_of left old d

-- the leaf that a key has now, beside the one that it had
abbrev pub IsJoinedAt : (LeafView → LeafView → Type 0) → ℕ → LeafView → LeafView → Bytes → Type 0
IsJoinedAt Q d old new k = (new ≡ old) ⊎ (HasLeft Q d old new k ⊎ HasRight Q d old new k)

-- in the fences of one of two neighbours a key is below the fence between them, or isn't
pub under_next : (left right : LeafView) (next : AreNeighbours left right) (k : Bytes) → is_in_fences left k ≡ true
    → is_below k next.fence ≡ true
under_next left right next k inside =
    subst (λ (f : Option Bytes). ends_above f k ≡ true) next.ends
    (and_parts (starts_at_most left.low_fence k) (ends_above left.high_fence k) inside).1

pub past_next : (left right : LeafView) (next : AreNeighbours left right) (k : Bytes) → is_in_fences right k ≡ true
    → is_below k next.fence ≡ false
past_next left right next k inside =
    not-true (is_below k next.fence)
    (subst (λ (f : Option Bytes). starts_at_most f k ≡ true) next.begins
    (and_parts (starts_at_most right.low_fence k) (ends_above right.high_fence k) inside).0)

module _ (left right : LeafView) (d : ℕ) (next : AreNeighbours left right) (k : Bytes) where
  held_left : is_in_fences left k ≡ true → is_in_fences (joined_of left right d) k ≡ true
  held_left inside =
      lower_between left.low_fence right.high_fence next.fence k next.below
      (subst (λ (f : Option Bytes). is_between left.low_fence f k ≡ true) next.ends inside)

  held_right : is_in_fences right k ≡ true → is_in_fences (joined_of left right d) k ≡ true
  held_right inside =
      upper_between left.low_fence right.high_fence next.fence k next.above
      (subst (λ (f : Option Bytes). is_between f right.high_fence k ≡ true) next.begins inside)

  held_neither : is_in_fences left k ≡ false → is_in_fences right k ≡ false
      → is_in_fences (joined_of left right d) k ≡ false
  held_neither one two =
      false_from_ne_true _ (λ inside. elim (cases_Bool (is_below k next.fence)) [
        | inl under ↦
            let there : is_in_fences left k ≡ true =
            subst (λ (f : Option Bytes). is_between left.low_fence f k ≡ true) (sym next.ends)
            (between_lower left.low_fence right.high_fence next.fence k inside under) in
            true≢false (sym there ∙ one)
        | inr past ↦
            let there : is_in_fences right k ≡ true =
            subst (λ (f : Option Bytes). is_between f right.high_fence k ≡ true) (sym next.begins)
            (between_upper left.low_fence right.high_fence next.fence k inside
            (not_from_false (is_below k next.fence) past)) in
            true≢false (sym there ∙ two)
      ])

module _ (Q : LeafView → LeafView → Type 0) (near : (left right : LeafView) → Q left right → AreNeighbours left right)
    (d : ℕ) (k : Bytes) where
  leaf_joined : (left right : LeafView) (rest : List LeafView) → Q left right
      → IsJoinedAt Q d (leaf_at (left ∷ right ∷ rest) k) (leaf_at (joined_of left right d ∷ rest) k) k
  leaf_joined left right rest pair =
      let next = near left right pair in
      elim (cases_Bool (is_in_fences left k)) [
        | inl held ↦ rw (held, held_left left right d next k held)
            (inr (inl (record { right = right; pair = pair; held = held; is = refl })))
        | inr out ↦ elim (cases_Bool (is_in_fences right k)) [
          | inl held ↦ rw (out, held, held_right left right d next k held)
              (inr (inr (record { left = left; pair = pair; held = held; is = refl })))
          | inr off ↦ rw (out, off, held_neither left right d next k out off) (inl refl)
        ]
      ]

  pub leaf_merged : (leaves : List LeafView) (p : ℕ) → AtPair Q leaves p
      → IsJoinedAt Q d (leaf_at leaves k) (leaf_at (merged_at p d leaves) k) k
  leaf_merged [] p here = inl refl
  leaf_merged (leaf ∷ []) p here = inl refl
  leaf_merged (left ∷ right ∷ rest) zero here = leaf_joined left right rest here
  leaf_merged (left ∷ right ∷ rest) (suc p) here =
      elim (cases_Bool (is_in_fences left k)) [
        | inl held ↦ rw held (inl refl)
        | inr later ↦ rw later (leaf_merged (right ∷ rest) p here)
      ]
