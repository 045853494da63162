-- Leaves without an entry above a known end.
use Rattle.std.proofs.Common.{◌≡◌, ℕ, ◌+◌, ◌<◌, ◌≤◌, Result, Ok, Err, OnOk, OnErr, IfErr, Bool, true, false, List, length, get_or, drop, Some, None, refl, sym, ap, ◌∙◌, subst, add-one, inr}
use Rattle.std.proofs.Math.Seq.{drop-cons}
use Rattle.std.proofs.lemmas.List.{drop_all}
use Rattle.record_key.specs.declared.refusal.Refusal.{Refusal}
use Rattle.record_key.specs.declared.refusal.Refusal.TheVariants.{NotNow, Device}
use Rattle.record_key.specs.Table.{Bytes}
use Rattle.dc_leaf.specs.Leaf.{LeafView, first}
use Rattle.dc_leaf.specs.Tops.{is_within, all_within}
use Rattle.dc_tree.specs.Leaves.{leaf_at, place_at}
use Rattle.dc_tree.proofs.Firsts.{first_large_at, first_pair_at}
use Rattle.dc_store.specs.Changes.{first_large, first_pair, lowered, written_all}
use Rattle.dc_store.specs.Gives.{Splits, Merges, tending, TendsTo, StopsWriting, FlushGives, HaveImages, FailsAmong, StopsCheckpoint, CheckpointGives}
use Rattle.dc_store.specs.SystemView.{SystemView}
use Rattle.dc_store.specs.declared.tended.Neighbours.{Neighbours}
use Rattle.dc_store.specs.declared.tended.Tended.TheVariants as tended
use Rattle.dc_store.proofs.Places.{leaf_there}

-- ---- all leaves, one after another

module _ (known : ℕ) (leaves : List LeafView) (p : ℕ) where
  pub none_yet : p < length leaves → is_within known (get_or leaves p first) ≡ true
      → all_within known leaves ≡ all_within known (drop p leaves)
      → all_within known leaves ≡ all_within known (drop (p + 1) leaves)
  none_yet there within so_far =
      so_far ∙ ap (all_within known) (drop-cons leaves p first there) ∙ rw (within, add-one) refl

  pub one_above : p < length leaves → is_within known (get_or leaves p first) ≡ false
      → all_within known leaves ≡ all_within known (drop p leaves) → all_within known leaves ≡ false
  one_above there above so_far =
      so_far ∙ ap (all_within known) (drop-cons leaves p first there) ∙ rw above refl

  pub none_above : length leaves ≤ p → all_within known leaves ≡ all_within known (drop p leaves)
      → all_within known leaves ≡ true
  none_above past so_far = so_far ∙ ap (all_within known) (drop_all p leaves past)

-- ---- what is tended has none

pub tends_split : (known : ℕ) (old : SystemView) (merges : Bool) (p : ℕ) (pair : Neighbours) (new : SystemView)
    → first_large known old.leaves ≡ Some p → Splits old p pair new
    → TendsTo known old (tending old merges known) (tended.Split pair) new
tends_split known old merges p pair new is splits =
    rw is ((first_large_at known old.leaves p is).within, splits)

pub tends_merge : (known : ℕ) (old : SystemView) (p : ℕ) (pair : Neighbours) (new : SystemView)
    → first_large known old.leaves ≡ None → first_pair known old.leaves ≡ Some p → Merges old p pair new
    → TendsTo known old (tending old true known) (tended.Merged pair) new
tends_merge known old p pair new none is merges =
    rw (none, is) (rw add-one (first_pair_at known old.leaves p is).within, merges)

-- ---- a leaf that is written has none

-- what is asked of the leaf at a key's place is asked of the key's leaf
pub asked : (known : ℕ) (leaves : List LeafView) (k : Bytes) (p : ℕ) (leaf : LeafView) (b : Bool)
    → p ≡ place_at leaves k → p < length leaves → leaf ≡ get_or leaves p first → is_within known leaf ≡ b
    → is_within known (leaf_at leaves k) ≡ b
asked known leaves k p leaf b at there is within =
    ap (is_within known) (sym (leaf_there leaves k p at there) ∙ sym is) ∙ within

pub flush_refused : (known : ℕ) (old : SystemView) (k : Bytes) → is_within known (leaf_at old.leaves k) ≡ false
    → FlushGives old k known (Err NotNow) old
flush_refused known old k above = rw above (refl, refl)

pub flush_stops : (known : ℕ) (old : SystemView) (k : Bytes) (r : Refusal) (new : SystemView)
    → is_within known (leaf_at old.leaves k) ≡ true → StopsWriting old (leaf_at old.leaves k) r new
    → FlushGives old k known (Err r) new
flush_stops known old k r new within stops = rw within stops

-- ---- and neither has any where all are written

pub checkpoint_refused : (known : ℕ) (old : SystemView) (l : ℕ) → all_within known old.leaves ≡ false
    → CheckpointGives old l known (Err NotNow) old
checkpoint_refused known old l above = rw above (refl, refl)

pub checkpoint_stops : (known : ℕ) (old : SystemView) (l : ℕ) (r : Refusal) (new : SystemView)
    → all_within known old.leaves ≡ true → StopsCheckpoint old l r new → CheckpointGives old l known (Err r) new
checkpoint_stops known old l r new within stops = rw within stops

pub checkpoint_ends : (known : ℕ) (old : SystemView) (l : ℕ) (result : Result Unit Refusal) (start new : SystemView)
    → all_within known old.leaves ≡ true → start ≡ lowered old l → OnOk result (HaveImages start.leaves)
    → OnOk result (new ≡ written_all start start.leaves) → IfErr result (λ r. r ≡ Device)
    → OnErr result (FailsAmong start start.leaves new) → CheckpointGives old l known result new
checkpoint_ends known old l (Ok done) start new within is images written refused failed = record {
  within = within;
  fit = subst (λ (v : SystemView). HaveImages v.leaves) is images;
  after = subst (λ (v : SystemView). new ≡ written_all v v.leaves) is written;
}
checkpoint_ends known old l (Err r) start new within is images written refused failed =
    checkpoint_stops known old l r new within
    (inr (refused, subst (λ (v : SystemView). FailsAmong v v.leaves new) is failed))
