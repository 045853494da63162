-- What low numbers hide: one that is hidden on the leaf of its key alone isn't above the greatest low number when redo
-- last ended, whatever becomes of the leaves.
use Rattle.std.proofs.Common.{◌≡◌, ℕ, ◌<◌, ◌≤◌, true, List, [], ◌∷◌, map, ap, arith, inl, inr, lt-ltb, le-ltb}
use Rattle.std.specs.List.{AllByRecursion}
use Rattle.std.proofs.lemmas.Bool.{cases_Bool, cases_lt}
use Rattle.record_key.specs.declared.op.Op.{Op}
use Rattle.record_key.specs.Table.{Bytes, key_of}
use Rattle.record_key.proofs.Lists.{all_from}
use Rattle.dc_ab_lsn.specs.AbLsn.{AbLsnView, raised}
use Rattle.dc_leaf.specs.Leaf.{LeafView, is_in_fences, raised_to}
use Rattle.dc_tree.specs.Leaves.{AreLeaves, leaf_at}
use Rattle.dc_tree.specs.Parting.{may_split_at, split_at, merged_at}
use Rattle.dc_tree.specs.Performs.{performed_at}
use Rattle.dc_tree.proofs.AtKey.{all_at, leaf_performed, leaf_not_performed, leaf_raised}
use Rattle.dc_tree.proofs.Carried.{AreLows, lows_performed, lows_split, lows_merged}
use Rattle.dc_tree.proofs.Changing.{all_mapped}
use Rattle.dc_tree.proofs.Splitting.{leaf_split}
use Rattle.dc_core.specs.declared.performance.Performance.{Performance}
use Rattle.dc_core.specs.DcView.{top_low}
use Rattle.dc_core.specs.Kept.{IsShown, IsLevel}

pub all_each : {X : Type 0} (P : X → Type 0) → ((x : X) → P x) → (xs : List X) → AllByRecursion P xs
all_each P of [] = tt
all_each P of (x ∷ xs) = (of x, all_each P of xs)

-- where low numbers are no higher, or the same everywhere, none is hidden on one leaf alone
pub shown_level : (n : ℕ) (ls : List LeafView) → AreLeaves ls → AreLows (IsLevel n ls) ls → (p : Performance)
    → IsShown n ls p
shown_level n ls kept level p over =
    let low : ℕ = (leaf_at ls (key_of p.op)).ab.low in
    elim (cases_lt low p.number) [
      | inl below ↦ inl below
      | inr at ↦ elim (all_at (λ (leaf : LeafView). IsLevel n ls leaf.ab.low) ls (key_of p.op) kept level) [
        | inl under ↦ absurd (omega (arith, over, under, at))
        | inr all ↦ inr (all_from (λ (leaf : LeafView). low ≤ leaf.ab.low) (λ (leaf : LeafView). p.number ≤ leaf.ab.low)
            (λ leaf le. omega (arith, le, at)) ls all)
      ]
    ]

-- ---- a step that keeps what all low numbers have

module _ (n : ℕ) (ls ms : List LeafView) (lows : (P : ℕ → Type 0) → AreLows P ls → AreLows P ms) where
  pub level_after : AreLows (IsLevel n ls) ls → AreLows (IsLevel n ms) ms
  level_after level =
      all_from (λ (leaf : LeafView). IsLevel n ls leaf.ab.low) (λ (leaf : LeafView). IsLevel n ms leaf.ab.low)
      (λ leaf h. elim h [
        | inl under ↦ inl under
        | inr all ↦ inr (lows (λ (x : ℕ). leaf.ab.low ≤ x) all)
      ]) ms (lows (IsLevel n ls) level)

  -- and that of each key
  pub shown_after : ((q : Bytes) → (leaf_at ms q).ab.low ≡ (leaf_at ls q).ab.low) → (p : Performance) → IsShown n ls p
      → IsShown n ms p
  shown_after same p shown over =
      elim (shown over) [
        | inl below ↦ let low = same (key_of p.op) in inl (omega (arith, low, below))
        | inr all ↦ inr (lows (λ (x : ℕ). p.number ≤ x) all)
      ]

-- ---- an operation, and a leaf parted

module _ (ls : List LeafView) (kept : AreLeaves ls) where
  low_performed : (m : ℕ) (o : Op) (q : Bytes) → (leaf_at (performed_at ls m o) q).ab.low ≡ (leaf_at ls q).ab.low
  low_performed m o q =
      elim (cases_Bool (is_in_fences (leaf_at ls (key_of o)) q)) [
        | inl inside ↦ ap (λ (leaf : LeafView). leaf.ab.low) (leaf_performed ls kept m o q inside)
        | inr outside ↦ ap (λ (leaf : LeafView). leaf.ab.low) (leaf_not_performed ls kept m o q outside)
      ]

  low_split : (p id d : ℕ) → may_split_at ls p ≡ true → (q : Bytes)
      → (leaf_at (split_at p id d ls) q).ab.low ≡ (leaf_at ls q).ab.low
  low_split p id d may q =
      elim (leaf_split ls p id d q kept.each may) [
        | inl same ↦ ap (λ (leaf : LeafView). leaf.ab.low) same
        | inr half ↦ elim half [
          | inl lower ↦ ap (λ (leaf : LeafView). leaf.ab.low) lower.is
          | inr upper ↦ ap (λ (leaf : LeafView). leaf.ab.low) upper.is
        ]
      ]

  module _ (n : ℕ) where
    pub shown_performed : (m : ℕ) (o : Op) (p : Performance) → IsShown n ls p → IsShown n (performed_at ls m o) p
    shown_performed m o =
        shown_after n ls (performed_at ls m o) (λ P all. lows_performed P ls m o all) (low_performed m o)

    pub level_performed : (m : ℕ) (o : Op) → AreLows (IsLevel n ls) ls
        → AreLows (IsLevel n (performed_at ls m o)) (performed_at ls m o)
    level_performed m o = level_after n ls (performed_at ls m o) (λ P all. lows_performed P ls m o all)

    pub shown_split : (at id d : ℕ) → may_split_at ls at ≡ true → (p : Performance) → IsShown n ls p
        → IsShown n (split_at at id d ls) p
    shown_split at id d may =
        shown_after n ls (split_at at id d ls) (λ P all. lows_split P ls at id d kept may all) (low_split at id d may)

    pub level_split : (at id d : ℕ) → may_split_at ls at ≡ true → AreLows (IsLevel n ls) ls
        → AreLows (IsLevel n (split_at at id d ls)) (split_at at id d ls)
    level_split at id d may = level_after n ls (split_at at id d ls) (λ P all. lows_split P ls at id d kept may all)

    pub level_merged : (at d : ℕ) → AreLows (IsLevel n ls) ls
        → AreLows (IsLevel n (merged_at at d ls)) (merged_at at d ls)
    level_merged at d = level_after n ls (merged_at at d ls) (λ P all. lows_merged P ls at d all)

-- ---- the low numbers raised

-- it is as high as before, and as high as it was raised to
raised_to_both : (v : AbLsnView) (l : ℕ) → (v.low ≤ (raised v l).low) × (l ≤ (raised v l).low)
raised_to_both v l =
    elim (cases_lt v.low l) [
      | inl less ↦ rw (lt-ltb v.low l less) (omega (arith, less), omega arith)
      | inr free ↦ rw (le-ltb v.low l free) (omega arith, free)
    ]

-- and no higher
raised_below : (v : AbLsnView) (l n : ℕ) → v.low < n → l < n → (raised v l).low < n
raised_below v l n low less =
    elim (cases_lt v.low l) [
      | inl under ↦ rw (lt-ltb v.low l under) less
      | inr free ↦ rw (le-ltb v.low l free) low
    ]

module _ (n : ℕ) (ls : List LeafView) (kept : AreLeaves ls) (l : ℕ) where
  abbrev ms : List LeafView
  ms = map (λ leaf. raised_to leaf l) ls

  -- what is below each low number, or what it is raised to, is below each new one
  all_above : (x : ℕ) → AreLows (λ (y : ℕ). x ≤ y) ls → AreLows (λ (y : ℕ). x ≤ y) ms
  all_above x all =
      all_mapped (λ (leaf : LeafView). x ≤ leaf.ab.low) (λ (leaf : LeafView). x ≤ leaf.ab.low)
      (λ leaf. raised_to leaf l) (λ leaf le. let more = (raised_to_both leaf.ab l).0 in omega (arith, le, more)) ls all

  all_raised : (x : ℕ) → x ≤ l → AreLows (λ (y : ℕ). x ≤ y) ms
  all_raised x within =
      all_mapped (λ (leaf : LeafView). Unit {0}) (λ (leaf : LeafView). x ≤ leaf.ab.low) (λ leaf. raised_to leaf l)
      (λ leaf _. let more = (raised_to_both leaf.ab l).1 in omega (arith, within, more)) ls
      (all_each (λ (leaf : LeafView). Unit {0}) (λ leaf. tt) ls)

  pub shown_raised : (p : Performance) → IsShown n ls p → IsShown n ms p
  shown_raised p shown over =
      let same = ap (λ (leaf : LeafView). leaf.ab.low) (leaf_raised ls kept l (key_of p.op)) in
      elim (cases_lt l p.number) [
        | inr within ↦ inr (all_raised p.number within)
        | inl above ↦ elim (shown over) [
          | inl below ↦
              let still = raised_below (leaf_at ls (key_of p.op)).ab l p.number below above in
              inl (omega (arith, same, still))
          | inr all ↦ inr (all_above p.number all)
        ]
      ]

  level_one : (leaf : LeafView) → IsLevel n ls leaf.ab.low → IsLevel n ms (raised leaf.ab l).low
  level_one leaf level =
      elim (cases_lt leaf.ab.low l) [
        | inl less ↦ rw (lt-ltb leaf.ab.low l less) (inr (all_raised l (omega arith)))
        | inr free ↦ rw (le-ltb leaf.ab.low l free) (elim level [
          | inl under ↦ inl under
          | inr all ↦ inr (all_above leaf.ab.low all)
        ])
      ]

  pub level_raised : AreLows (IsLevel n ls) ls → AreLows (IsLevel n ms) ms
  level_raised level =
      all_mapped (λ (leaf : LeafView). IsLevel n ls leaf.ab.low) (λ (leaf : LeafView). IsLevel n ms leaf.ab.low)
      (λ leaf. raised_to leaf l) level_one ls level

-- ---- redo ended

below_top : (n : ℕ) (ls : List LeafView) → top_low ls ≤ n → AreLows (λ (y : ℕ). y ≤ n) ls
below_top n [] le = tt
below_top n (leaf ∷ ls) le = (omega (arith, le), below_top n ls (omega (arith, le)))

pub level_redone : (ls : List LeafView) → AreLows (IsLevel (top_low ls) ls) ls
level_redone ls =
    all_from (λ (leaf : LeafView). leaf.ab.low ≤ top_low ls)
    (λ (leaf : LeafView). IsLevel (top_low ls) ls leaf.ab.low) (λ leaf le. inl le) ls
    (below_top (top_low ls) ls (omega arith))
