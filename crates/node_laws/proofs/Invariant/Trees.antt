-- Leaves that are raised, split or merged stay true to the log, and carry on what stands at each key.
use Rattle.std.proofs.Common.{◌≡◌, ℕ, ◌+◌, ◌≤◌, Bool, true, List, [], ◌∷◌, Some, refl, sym, ap, ◌∙◌, subst, arith, inl, inr}
use Rattle.std.specs.Prelude.{map, nat_le, ◌||◌, get_or}
use Rattle.std.specs.List.{AllByRecursion}
use Rattle.std.proofs.lemmas.Bool.{or_cases, and_parts}
use Rattle.std.proofs.lemmas.Bool.Decides.{nat_tests}
use Rattle.record_key.specs.Table.{Bytes, key_of}
use Rattle.record_key.proofs.Lists.{all_from}
use Rattle.codec.specs.declared.dc_record.DcRecord.{DcRecord}
use Rattle.dc_ab_lsn.specs.AbLsn.{captures}
use Rattle.dc_ab_lsn.specs.Parting.{is_from}
use Rattle.dc_ab_lsn.proofs.Capturing.{raised_captures, joined_captures}
use Rattle.dc_leaf.specs.Leaf.{LeafView, first, is_in_fences, raised_to}
use Rattle.dc_leaf.specs.Tops.{is_within, are_within, all_within}
use Rattle.dc_leaf.specs.Parting.{upper_of, joined_of}
use Rattle.dc_leaf.specs.Honest.{IsHonestLeaf, IsCapturedTo}
use Rattle.dc_leaf.proofs.Raising.{honest_raised}
use Rattle.dc_tree.specs.Leaves.{leaf_at}
use Rattle.dc_tree.specs.Parting.{middle, may_split_at, may_merge_at, split_at, merged_at}
use Rattle.dc_tree.specs.TreeLaw.{AreHonestLeaves, AreCapturedAt}
use Rattle.dc_tree.proofs.AtKey.{captured_split, captured_merged, captured_raised}
use Rattle.dc_tree.proofs.Changing.{all_mapped}
use Rattle.dc_tree.proofs.Merging.{both_there, pair_all}
use Rattle.dc_tree.proofs.Places.{split_within, merge_within}
use Rattle.dc_tree.proofs.Whole.{all_get}
use Rattle.dc_tree.proofs.Stays.{split_honest, merged_honest}
use Rattle.dc_tree.proofs.Carried.{lows_raised, lows_split, lows_merged}
use Rattle.dc_tree.proofs.Owning.{own_leaves, the_upper, the_merged}
use Rattle.dc_recovery.specs.Images.{leaf_of, image_of}
use Rattle.dc_recovery.specs.Laws.{leaf_in}
use Rattle.dc_recovery.specs.Ready.{IsHonestTo, AllHave}
use Rattle.dc_recovery.specs.Recovery.{Pages}
use Rattle.dc_recovery.proofs.Images.{leaf_again}
use Rattle.dc_recovery.proofs.Honesty.{captures_fewer}
use Rattle.dc_core.specs.dc_store.specs.SystemView.{SystemView}
use Rattle.dc_core.specs.dc_store.specs.Devices.{pages_of}
use Rattle.dc_core.specs.dc_store.specs.Changes.{next_id, next_number, split_to, merged_to, lowered}
use Rattle.dc_core.specs.DcView.{leaves}
use Rattle.dc_core.proofs.KeepsDc.{all_both}
use Rattle.node_laws.specs.Node.{NodeView}
use Rattle.node_laws.specs.Kept.{IsKept, IsAnsweredBy, IsTrueTo, IsLowAnswered, AnsweredAreCaptured}
use Rattle.node_laws.specs.Source.{Source}
use Rattle.node_laws.proofs.Invariant.Announced.{all_answered, most_sure}
use Rattle.node_laws.proofs.Invariant.Captured.{sure_leaf}
use Rattle.node_laws.proofs.Invariant.Sources.{honest_now, low_now, sure_within}
use Rattle.node_laws.proofs.Invariant.Systems.{LeavesCarry}

-- ---- what is answered up to a number is captured by the leaf of its key

captured_leaf : (w : NodeView) (x : Source) (l : ℕ) (leaf : LeafView) → AnsweredAreCaptured x.log w.dc
    → ((key : Bytes) → is_in_fences leaf key ≡ true → leaf_at (leaves w.dc) key ≡ leaf)
    → IsAnsweredBy x.log x.sure l
    → IsCapturedTo x.log leaf l
captured_leaf w x l leaf all own to = record {
  all = λ n o asks within below. subst (λ (y : LeafView). captures y.ab n ≡ true) (own (key_of o) within)
      (all n o asks (all_answered x.log x.sure l to n o below asks));
}

abbrev IsOwn : NodeView → LeafView → Type 0
IsOwn w leaf = (key : Bytes) → is_in_fences leaf key ≡ true → leaf_at (leaves w.dc) key ≡ leaf

all_own : (w : NodeView) → IsKept w → AllByRecursion (IsOwn w) (leaves w.dc)
all_own w k = own_leaves (leaves w.dc) k.dc.system.leaves

-- so two that are joined have captured what they must of each other
are_captured : (w : NodeView) (p : ℕ) (k : IsKept w) → AnsweredAreCaptured k.source.log w.dc
    → may_merge_at (leaves w.dc) p ≡ true
    → AreCapturedAt k.source.log (leaves w.dc) p
are_captured w p k all may =
    let x : Source = k.source in
    let within = merge_within (leaves w.dc) p may in
    let own = both_there (λ left right. IsOwn w left × IsOwn w right) (leaves w.dc) p
    (pair_all (IsOwn w) (leaves w.dc) p (all_own w k)) within in
    let low = both_there (λ left right. IsLowAnswered x.log x.sure left × IsLowAnswered x.log x.sure right)
    (leaves w.dc) p (pair_all (IsLowAnswered x.log x.sure) (leaves w.dc) p k.true_to.low) within in
    record { left = captured_leaf w x _ _ all own.0 low.1; right = captured_leaf w x _ _ all own.1 low.0 }

-- ---- parts of what is true to the source

are_honest : (w : NodeView) (k : IsKept w) → AreHonestLeaves k.source.log (leaves w.dc)
are_honest w k = k.true_to.leaves

-- a leaf without an entry above the known end has captured sure numbers only
is_sure : (w : NodeView) (k : IsKept w) (leaf : LeafView) → IsLowAnswered k.source.log k.source.sure leaf
    → is_within w.dc.known leaf ≡ true → IsHonestLeaf k.source.log leaf → IsHonestTo k.source.log k.source.sure leaf
is_sure w k leaf = sure_leaf k.source w.dc.known leaf
    (sure_within w.tc w.dc.stored k.source k.tc.within k.from) k.known

are_sure : (w : NodeView) (k : IsKept w) (ls : List LeafView) → all_within w.dc.known ls ≡ true
    → AllByRecursion (IsHonestLeaf k.source.log) ls
    → AllByRecursion (IsLowAnswered k.source.log k.source.sure) ls
    → AllByRecursion (IsHonestTo k.source.log k.source.sure) ls
are_sure w k [] within honest low = tt
are_sure w k (leaf ∷ ls) within honest low =
    let both = and_parts (is_within w.dc.known leaf) (all_within w.dc.known ls) within in
    (is_sure w k leaf low.0 both.0 honest.0, are_sure w k ls both.1 honest.1 low.1)

-- leaves that are true to the source are so to the log
pub own_now : (w : NodeView) (k : IsKept w) (leaf : LeafView) → IsHonestTo k.source.log k.source.sure leaf
    → IsHonestTo w.tc.log w.tc.stable leaf
own_now w k = honest_now w.tc w.dc.stored k.source k.tc.within k.from

-- a leaf that is written is so true
pub sure_now : (w : NodeView) (k : IsKept w) (leaf : LeafView) → IsLowAnswered k.source.log k.source.sure leaf
    → is_within w.dc.known leaf ≡ true → IsHonestLeaf k.source.log leaf → IsHonestTo w.tc.log w.tc.stable leaf
sure_now w k leaf low within h = own_now w k leaf (is_sure w k leaf low within h)

pub low_all_now : (w : NodeView) (k : IsKept w) (ls : List LeafView)
    → AllByRecursion (IsLowAnswered k.source.log k.source.sure) ls
    → AllByRecursion (IsLowAnswered w.tc.log w.tc.stable) ls
low_all_now w k = all_from (IsLowAnswered k.source.log k.source.sure) (IsLowAnswered w.tc.log w.tc.stable)
    (low_now w.tc w.dc.stored k.source k.tc.within k.from)

-- a record more, whose leaf is one of these
have_logged : (P : LeafView → Type 0) (pages : Pages) (r : DcRecord) (log : List DcRecord) → AllHave P pages log
    → ((leaf : LeafView) → leaf_in r ≡ Some leaf → P leaf)
    → AllHave P pages (r ∷ log)
have_logged P pages r log h here = record { first_leaf = h.first_leaf; page = h.page; logged = (here, h.logged) }

in_image : (P : LeafView → Type 0) (leaf x : LeafView) → P leaf → Some (leaf_of (image_of leaf)) ≡ Some x → P x
in_image P leaf x h e = subst P (let same : leaf_of (image_of leaf) ≡ x = cc in sym (leaf_again leaf) ∙ same) h

-- ---- splits

module _ (w : NodeView) (p : ℕ) (k : IsKept w) (may : may_split_at (leaves w.dc) p ≡ true)
    (known : is_within w.dc.known (get_or (leaves w.dc) p first) ≡ true) where
  abbrev v : SystemView
  v = w.dc.system

  abbrev x : Source
  x = k.source

  abbrev split_leaves : List LeafView
  split_leaves = split_at p (next_id v) (next_number v) (leaves w.dc)

  abbrev parted : LeafView
  parted = get_or (leaves w.dc) p first

  abbrev half : LeafView
  half = upper_of parted (middle parted) (next_id v) (next_number v)

  split_honest_to : AllByRecursion (IsHonestLeaf x.log) split_leaves
  split_honest_to =
      split_honest x.log (leaves w.dc) p (next_id v) (next_number v) k.dc.system.leaves may (are_honest w k)

  -- the half that is logged has captured no more than the leaf
  half_true : IsHonestTo w.tc.log w.tc.stable half
  half_true =
      let place = split_within (leaves w.dc) p may in
      let whole = is_sure w k parted (all_get (IsLowAnswered x.log x.sure)
      (leaves w.dc) p first place k.true_to.low) known
      (all_get (IsHonestLeaf x.log) (leaves w.dc) p first place k.true_to.leaves) in
      own_now w k half (record {
        honest = the_upper (IsHonestLeaf x.log) (leaves w.dc) p (next_id v) (next_number v) may split_honest_to;
        within = λ n captured. whole.within n (captures_fewer parted.ab (is_from (middle parted)) n captured);
      })

  split_low : AllByRecursion (IsLowAnswered x.log x.sure) split_leaves
  split_low = lows_split (IsAnsweredBy x.log x.sure) (leaves w.dc) p (next_id v) (next_number v) k.dc.system.leaves may
      k.true_to.low

  pub split_true : IsTrueTo w.tc x (split_to v p)
  split_true = record {
    leaves = split_honest_to;
    low = split_low;
    written = have_logged (IsHonestTo w.tc.log w.tc.stable) (pages_of v.pages) _ v.log k.true_to.written
        (λ leaf is. in_image (IsHonestTo w.tc.log w.tc.stable) half leaf half_true is);
    written_low = have_logged (IsLowAnswered w.tc.log w.tc.stable) (pages_of v.pages) _ v.log k.true_to.written_low
        (λ leaf is. in_image (IsLowAnswered w.tc.log w.tc.stable) _ leaf
        (the_upper (IsLowAnswered w.tc.log w.tc.stable) (leaves w.dc) p (next_id v) (next_number v) may
        (low_all_now w k split_leaves split_low)) is);
  }

  pub split_carries : LeavesCarry x.log (leaves w.dc) split_leaves
  split_carries = record {
    captured = λ n o asks h.
        captured_split (leaves w.dc) k.dc.system.leaves p (next_id v) (next_number v) may (key_of o) x.log
        (are_honest w k) n o asks refl ∙ h;
  }

-- ---- merges

module _ (w : NodeView) (p : ℕ) (k : IsKept w) (all : AnsweredAreCaptured k.source.log w.dc)
    (may : may_merge_at (leaves w.dc) p ≡ true)
    (known : are_within w.dc.known (get_or (leaves w.dc) p first) (get_or (leaves w.dc) (p + 1) first) ≡ true) where
  abbrev u : SystemView
  u = w.dc.system

  abbrev y : Source
  y = k.source

  abbrev merged_leaves : List LeafView
  merged_leaves = merged_at p (next_number u) (leaves w.dc)

  abbrev left : LeafView
  left = get_or (leaves w.dc) p first

  abbrev right : LeafView
  right = get_or (leaves w.dc) (p + 1) first

  abbrev joined : LeafView
  joined = joined_of left right (next_number u)

  merged_honest_to : AllByRecursion (IsHonestLeaf y.log) merged_leaves
  merged_honest_to = merged_honest y.log (leaves w.dc) p (next_number u) k.dc.system.leaves (are_honest w k)
      (are_captured w p k all may)

  -- the leaf of both has captured no more than each
  joined_true : IsHonestTo w.tc.log w.tc.stable joined
  joined_true =
      let within = merge_within (leaves w.dc) p may in
      let honest = both_there (λ l r. IsHonestLeaf y.log l × IsHonestLeaf y.log r) (leaves w.dc) p
      (pair_all (IsHonestLeaf y.log) (leaves w.dc) p k.true_to.leaves) within in
      let low = both_there (λ l r. IsLowAnswered y.log y.sure l × IsLowAnswered y.log y.sure r) (leaves w.dc) p
      (pair_all (IsLowAnswered y.log y.sure) (leaves w.dc) p k.true_to.low) within in
      let top = and_parts (is_within w.dc.known left) (is_within w.dc.known right) known in
      let one = is_sure w k left low.0 top.0 honest.0 in
      let other = is_sure w k right low.1 top.1 honest.1 in
      own_now w k joined (record {
        honest = the_merged (IsHonestLeaf y.log) (leaves w.dc) p (next_number u) may merged_honest_to;
        within = λ n captured. elim (or_cases (captures left.ab n) (captures right.ab n)
            (sym (joined_captures left.ab right.ab n) ∙ captured)) [
              | inl l ↦ one.within n l
              | inr r ↦ other.within n r
            ];
      })

  merged_low : AllByRecursion (IsLowAnswered y.log y.sure) merged_leaves
  merged_low = lows_merged (IsAnsweredBy y.log y.sure) (leaves w.dc) p (next_number u) k.true_to.low

  pub merged_true : IsTrueTo w.tc y (merged_to u p)
  merged_true = record {
    leaves = merged_honest_to;
    low = merged_low;
    written = have_logged (IsHonestTo w.tc.log w.tc.stable) (pages_of u.pages) _ u.log k.true_to.written
        (λ leaf is. in_image (IsHonestTo w.tc.log w.tc.stable) joined leaf joined_true is);
    written_low = have_logged (IsLowAnswered w.tc.log w.tc.stable) (pages_of u.pages) _ u.log k.true_to.written_low
        (λ leaf is. in_image (IsLowAnswered w.tc.log w.tc.stable) _ leaf
        (the_merged (IsLowAnswered w.tc.log w.tc.stable) (leaves w.dc) p (next_number u) may
        (low_all_now w k merged_leaves merged_low)) is);
  }

  pub merged_carries : LeavesCarry y.log (leaves w.dc) merged_leaves
  merged_carries = record {
    captured = λ n o asks h.
        captured_merged y.log (leaves w.dc) k.dc.system.leaves (are_honest w k) p
        (next_number u) (are_captured w p k all may) (key_of o) n o asks refl ∙ h;
  }

-- ---- low water

module _ (w : NodeView) (l : ℕ) (k : IsKept w) (all : AnsweredAreCaptured k.source.log w.dc)
    (to : IsAnsweredBy k.source.log k.source.sure l) where
  abbrev z : Source
  z = k.source

  abbrev IsOwnHonest : LeafView → Type 0
  IsOwnHonest leaf = IsOwn w leaf × IsHonestLeaf z.log leaf

  own_honest : AllByRecursion IsOwnHonest (leaves w.dc)
  own_honest = all_both (IsOwn w) (IsHonestLeaf z.log) IsOwnHonest (λ leaf own h. (own, h)) (leaves w.dc)
      (all_own w k) k.true_to.leaves

  raised_honest : (leaf : LeafView) → IsOwn w leaf → IsHonestLeaf z.log leaf → IsHonestLeaf z.log (raised_to leaf l)
  raised_honest leaf own h = honest_raised z.log leaf l h (captured_leaf w z l leaf all own to)

  raised_sure : (leaf : LeafView) → IsOwn w leaf → IsHonestTo z.log z.sure leaf
      → IsHonestTo z.log z.sure (raised_to leaf l)
  raised_sure leaf own h = record {
    honest = raised_honest leaf own h.honest;
    within = λ n captured. elim (or_cases (captures leaf.ab n) (nat_le n l)
        (sym (raised_captures leaf.ab l n) ∙ captured)) [
          | inl before ↦ h.within n before
          | inr below ↦ let less : n ≤ l = grind (arith, nat_tests, below) in
              omega (arith, less, most_sure z.log z.sure l (sure_within w.tc w.dc.stored z k.tc.within k.from) to)
        ];
  }

  pub lowered_true : IsTrueTo w.tc z (lowered w.dc.system l)
  lowered_true = record {
    leaves = all_mapped IsOwnHonest (IsHonestLeaf z.log) (λ leaf. raised_to leaf l)
        (λ leaf both. raised_honest leaf both.0 both.1) (leaves w.dc) own_honest;
    low = lows_raised (IsAnsweredBy z.log z.sure) (leaves w.dc) l to k.true_to.low;
    written = k.true_to.written;
    written_low = k.true_to.written_low;
  }

  -- where none has an entry above the known end they may be written
  pub lowered_sure : all_within w.dc.known (leaves w.dc) ≡ true
      → AllByRecursion (IsHonestTo w.tc.log w.tc.stable) (lowered w.dc.system l).leaves
  lowered_sure within =
      all_mapped (λ leaf. IsOwn w leaf × IsHonestTo z.log z.sure leaf) (IsHonestTo w.tc.log w.tc.stable)
      (λ leaf. raised_to leaf l) (λ leaf both. own_now w k (raised_to leaf l) (raised_sure leaf both.0 both.1))
      (leaves w.dc)
      (all_both (IsOwn w) (IsHonestTo z.log z.sure) (λ leaf. IsOwn w leaf × IsHonestTo z.log z.sure leaf)
      (λ leaf own h. (own, h)) (leaves w.dc) (all_own w k)
      (are_sure w k (leaves w.dc) within k.true_to.leaves k.true_to.low))

  pub lowered_carries : LeavesCarry z.log (leaves w.dc) (map (λ leaf. raised_to leaf l) (leaves w.dc))
  lowered_carries = record {
    captured = λ n o asks h. captured_raised (leaves w.dc) k.dc.system.leaves l (key_of o) n
        ∙ ap (λ (b : Bool). b || nat_le n l) h;
  }
