-- What all leaves' low numbers have, or all their entries, after each step among leaves.
use Rattle.std.proofs.Common.{◌≡◌, ℕ, true, List, map, inl, inr}
use Rattle.std.specs.Prelude.{nat_lt}
use Rattle.std.specs.List.{AllByRecursion}
use Rattle.std.proofs.lemmas.Bool.{cases_Bool}
use Rattle.record_key.specs.declared.op.Op.{Op}
use Rattle.record_key.specs.declared.entry.Entry.{Entry}
use Rattle.record_key.specs.Table.{key_of, answer_in}
use Rattle.dc_ab_lsn.specs.AbLsn.{AbLsnView, raised}
use Rattle.dc_ab_lsn.specs.Parting.{is_under, is_from}
use Rattle.dc_leaf.specs.Leaf.{LeafView, raised_to, performed}
use Rattle.dc_leaf.proofs.Performing.{all_placed}
use Rattle.dc_leaf.proofs.Raising.{all_raised}
use Rattle.dc_leaf.proofs.Halves.{all_kept, all_joined}
use Rattle.dc_tree.specs.Leaves.{AreLeaves, leaf_at}
use Rattle.dc_tree.specs.Parting.{middle, may_split_at, split_at, merged_at}
use Rattle.dc_tree.specs.Performs.{performed_at}
use Rattle.dc_tree.proofs.Changing.{all_changed, all_mapped}
use Rattle.dc_tree.proofs.Splitting.{all_split}
use Rattle.dc_tree.proofs.Merging.{pair_with, pair_all, all_merged}

-- ---- low numbers

module _ (P : ℕ → Type 0) where
  -- the low numbers have it
  abbrev pub AreLows : List LeafView → Type 0
  AreLows leaves = AllByRecursion (λ (leaf : LeafView). P leaf.ab.low) leaves

  low_raised : (v : AbLsnView) (l : ℕ) → P v.low → P l → P (raised v l).low
  low_raised v l one two =
      elim (cases_Bool (nat_lt v.low l)) [
        | inl less ↦ rw less two
        | inr free ↦ rw free one
      ]

  pub lows_performed : (leaves : List LeafView) (n : ℕ) (o : Op) → AreLows leaves → AreLows (performed_at leaves n o)
  lows_performed leaves n o all =
      all_changed (λ (leaf : LeafView). P leaf.ab.low) (key_of o) (λ leaf. performed leaf n o) leaves (λ low. low) all

  pub lows_raised : (leaves : List LeafView) (l : ℕ) → P l → AreLows leaves
      → AreLows (map (λ leaf. raised_to leaf l) leaves)
  lows_raised leaves l here all =
      all_mapped (λ (leaf : LeafView). P leaf.ab.low) (λ (leaf : LeafView). P leaf.ab.low) (λ leaf. raised_to leaf l)
      (λ leaf low. low_raised leaf.ab l low here) leaves all

  pub lows_split : (leaves : List LeafView) (p id d : ℕ) → AreLeaves leaves → may_split_at leaves p ≡ true
      → AreLows leaves → AreLows (split_at p id d leaves)
  lows_split leaves p id d kept may all =
      all_split (λ (leaf : LeafView). P leaf.ab.low) id d (λ leaf is may low. (low, low)) leaves p kept.each may all

  pub lows_merged : (leaves : List LeafView) (p d : ℕ) → AreLows leaves → AreLows (merged_at p d leaves)
  lows_merged leaves p d all =
      let both = pair_all (λ (leaf : LeafView). P leaf.ab.low) leaves p all in
      all_merged (λ (leaf : LeafView). P leaf.ab.low) d leaves p
      (pair_with _ _ _ (λ left right lows again. low_raised left.ab right.ab.low lows.0 lows.1) leaves p both both)
      all

-- ---- entries

module _ (P : Entry → Type 0) where
  -- the entries have it
  abbrev pub AreEntries : List LeafView → Type 0
  AreEntries leaves = AllByRecursion (λ (leaf : LeafView). AllByRecursion P leaf.ab.entries) leaves

  pub entries_performed : (leaves : List LeafView) (n : ℕ) (o : Op)
      → P (record { number = n; key = key_of o; answer = answer_in (leaf_at leaves (key_of o)).rows o })
      → AreEntries leaves → AreEntries (performed_at leaves n o)
  entries_performed leaves n o new all =
      all_changed (λ (leaf : LeafView). AllByRecursion P leaf.ab.entries) (key_of o) (λ leaf. performed leaf n o) leaves
      (λ entries. all_placed P _ (leaf_at leaves (key_of o)).ab.entries new entries) all

  pub entries_raised : (leaves : List LeafView) (l : ℕ) → AreEntries leaves
      → AreEntries (map (λ leaf. raised_to leaf l) leaves)
  entries_raised leaves l all =
      all_mapped (λ (leaf : LeafView). AllByRecursion P leaf.ab.entries)
      (λ (leaf : LeafView). AllByRecursion P leaf.ab.entries) (λ leaf. raised_to leaf l)
      (λ leaf entries. all_raised P leaf.ab l entries) leaves all

  pub entries_split : (leaves : List LeafView) (p id d : ℕ) → AreLeaves leaves → may_split_at leaves p ≡ true
      → AreEntries leaves → AreEntries (split_at p id d leaves)
  entries_split leaves p id d kept may all =
      all_split (λ (leaf : LeafView). AllByRecursion P leaf.ab.entries) id d (λ leaf is may entries. (
        all_kept P P (λ (e : Entry). is_under (middle leaf) e.key) (λ e here passes. here) leaf.ab.entries entries,
        all_kept P P (λ (e : Entry). is_from (middle leaf) e.key) (λ e here passes. here) leaf.ab.entries entries,
      )) leaves p kept.each may all

  pub entries_merged : (leaves : List LeafView) (p d : ℕ) → AreEntries leaves → AreEntries (merged_at p d leaves)
  entries_merged leaves p d all =
      let both = pair_all (λ (leaf : LeafView). AllByRecursion P leaf.ab.entries) leaves p all in
      all_merged (λ (leaf : LeafView). AllByRecursion P leaf.ab.entries) d leaves p
      (pair_with _ _ _ (λ left right entries again. all_joined P left.ab right.ab entries.0 entries.1) leaves p both
      both) all
