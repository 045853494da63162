-- Leaves that perform, are raised, are parted or joined have all keys among them still, and the same table.
use Rattle.std.proofs.Common.{◌≡◌, ◌≢◌, ℕ, true, false, List, [], ◌∷◌, Option, None, Result, Ok, Err, IfOk, OnErr, map, refl, sym, ap, ◌∙◌, subst, inl, inr, true≢false}
use Rattle.std.specs.List.{AllByRecursion}
use Rattle.std.specs.FinMap as table
use Rattle.std.proofs.lemmas.Bool.{cases_Bool}
use Rattle.record_key.specs.declared.op.Op.{Op}
use Rattle.record_key.specs.declared.op.Answer.{Answer}
use Rattle.record_key.specs.declared.refusal.Refusal.{Refusal}
use Rattle.record_key.specs.Table.{Bytes, key_of, answer_at, value_after, after}
use Rattle.record_key.proofs.Tables.{is_same, is_same-refl, is_same-true, get-with_record_same, get-with_record_other, same_table}
use Rattle.history.specs.declared.record.Record.{Record}
use Rattle.dc_ab_lsn.specs.AbLsn.{captures}
use Rattle.dc_leaf.specs.declared.leaf.Done.{Done}
use Rattle.dc_leaf.specs.Leaf.{LeafView, IsLeaf, performed, raised_to}
use Rattle.dc_leaf.specs.Tiles.{Part, TileFrom}
use Rattle.dc_leaf.specs.Honest.{IsHonestLeaf, IsNextOn, IsCapturedTo}
use Rattle.dc_leaf.proofs.Performing.{honest_performed as leaf_performed}
use Rattle.dc_leaf.proofs.Raising.{honest_raised as leaf_raised}
use Rattle.dc_leaf.proofs.Sides.{honest_lower, honest_upper}
use Rattle.dc_tree.specs.Leaves.{AreLeaves, leaf_at, rows_of}
use Rattle.dc_tree.specs.Parting.{middle, may_split_at, may_merge_at, split_at, merged_at}
use Rattle.dc_tree.specs.Performs.{performed_at, PerformsAt}
use Rattle.dc_tree.specs.TreeLaw.{PerformsOne, SameTable, AreHonestLeaves, AreCapturedAt}
use Rattle.dc_tree.proofs.Together.{value_from}
use Rattle.dc_leaf.proofs.Starts.{inside_fences}
use Rattle.dc_tree.proofs.Kept.{cuts_inside, kept_performed, kept_raised, kept_lower, kept_upper, kept_joined}
use Rattle.dc_tree.proofs.Changing.{all_changed, parts_changed, all_mapped, parts_mapped}
use Rattle.dc_tree.proofs.Splitting.{all_split, tile_split}
use Rattle.dc_tree.proofs.Merging.{AreJoinable, joinable, pair_with, all_merged, tile_merged}
use Rattle.dc_tree.proofs.AtKey.{within_at, value_performed, value_not_performed, value_raised, value_split, value_merged, honest_merged_at}

value_in : (leaves : List LeafView) (k : Bytes) → AreLeaves leaves
    → table.get (rows_of leaves) k ≡ table.get (leaf_at leaves k).rows k
value_in leaves k kept = value_from None leaves k kept.tile kept.each refl

-- ---- an operation

pub performed_leaves : (leaves : List LeafView) (n : ℕ) (o : Op) → AreLeaves leaves
    → captures (leaf_at leaves (key_of o)).ab n ≡ false → AreLeaves (performed_at leaves n o)
performed_leaves leaves n o kept out = record {
  each = all_changed IsLeaf (key_of o) (λ leaf. performed leaf n o) leaves
      (kept_performed (leaf_at leaves (key_of o)) n o (within_at leaves (key_of o) kept) out) kept.each;
  tile = subst (λ (ps : List Part). TileFrom None ps)
      (sym (parts_changed (λ leaf. performed leaf n o) (λ leaf. refl) (key_of o) leaves)) kept.tile;
}

module _ (leaves : List LeafView) (n : ℕ) (o : Op) (kept : AreLeaves leaves)
    (out : captures (leaf_at leaves (key_of o)).ab n ≡ false) where
  abbrev new : List LeafView
  new = performed_at leaves n o

  new_kept : AreLeaves new
  new_kept = performed_leaves leaves n o kept out

  was : table.get (rows_of leaves) (key_of o) ≡ table.get (leaf_at leaves (key_of o)).rows (key_of o)
  was = value_in leaves (key_of o) kept

  value_there : table.get (rows_of new) (key_of o) ≡ table.get (after (rows_of leaves) o) (key_of o)
  value_there =
      value_in new (key_of o) new_kept
      ∙ value_performed leaves kept n o
      ∙ ap (value_after o) (sym was)
      ∙ sym (get-with_record_same (rows_of leaves) (key_of o) (value_after o (table.get (rows_of leaves) (key_of o))))

  value_elsewhere : (k : Bytes) → k ≢ key_of o → table.get (rows_of new) k ≡ table.get (after (rows_of leaves) o) k
  value_elsewhere k apart =
      value_in new k new_kept
      ∙ value_not_performed leaves kept n o k apart
      ∙ sym (value_in leaves k kept)
      ∙ sym (get-with_record_other (rows_of leaves) (key_of o) k (value_after o (table.get (rows_of leaves) (key_of o)))
      apart)

  same_value : (k : Bytes) → table.get (rows_of new) k ≡ table.get (after (rows_of leaves) o) k
  same_value k =
      elim (cases_Bool (is_same k (key_of o))) [
        | inl same ↦
            let P : Bytes → Type 0 = λ q. table.get (rows_of new) q ≡ table.get (after (rows_of leaves) o) q in
            subst P (sym (is_same-true k (key_of o) same)) value_there
        | inr apart ↦ value_elsewhere k
            (λ e. true≢false (sym (ap (λ (q : Bytes). is_same q (key_of o)) e ∙ is_same-refl (key_of o)) ∙ apart))
      ]

  pub performs_one : PerformsOne leaves n o
  performs_one = record {
    kept = new_kept;
    answer = ap (answer_at o) (sym was);
    rows = same_table (rows_of new) (after (rows_of leaves) o) same_value;
  }

-- a request, or one that was refused
pub asked_leaves : (old new : List LeafView) (n : ℕ) (o : Op) (result : Result Done Refusal) (answer : Option Answer)
    → IfOk result (λ done. PerformsAt old n o done answer new) → OnErr result (new ≡ old) → AreLeaves old
    → AreLeaves new
asked_leaves old new n o (Ok done) answer performs refused kept =
    elim (cases_Bool (captures (leaf_at old (key_of o)).ab n)) [
      | inl captured ↦ let repeated = rw captured at performs in subst AreLeaves (sym repeated.1.1) kept
      | inr out ↦ let first = rw out at performs in subst AreLeaves (sym first.1.1) (performed_leaves old n o kept out)
    ]
asked_leaves old new n o (Err refusal) answer performs refused kept = subst AreLeaves (sym refused) kept

-- ---- leaves of which each key has the value that it had

same_rows : (old new : List LeafView) → AreLeaves old → AreLeaves new
    → ((k : Bytes) → table.get (leaf_at new k).rows k ≡ table.get (leaf_at old k).rows k) → SameTable old new
same_rows old new kept stays same = record {
  leaves = stays;
  rows = same_table (rows_of new) (rows_of old) (λ k. value_in new k stays ∙ same k ∙ sym (value_in old k kept));
}

pub raised_stays : (leaves : List LeafView) (l : ℕ) → AreLeaves leaves
    → SameTable leaves (map (λ leaf. raised_to leaf l) leaves)
raised_stays leaves l kept =
    let stays : AreLeaves (map (λ leaf. raised_to leaf l) leaves) = record {
      each = all_mapped IsLeaf IsLeaf (λ leaf. raised_to leaf l) (λ leaf is. kept_raised leaf l is) leaves kept.each;
      tile = subst (λ (ps : List Part). TileFrom None ps)
          (sym (parts_mapped (λ leaf. raised_to leaf l) (λ leaf. refl) leaves)) kept.tile;
    } in
    same_rows leaves _ kept stays (λ k. value_raised leaves kept l k)

pub split_stays : (leaves : List LeafView) (p id d : ℕ) → AreLeaves leaves → may_split_at leaves p ≡ true
    → SameTable leaves (split_at p id d leaves)
split_stays leaves p id d kept may =
    let stays : AreLeaves (split_at p id d leaves) = record {
      each = all_split IsLeaf id d
          (λ leaf is may again. (kept_lower leaf (middle leaf) d is, kept_upper leaf (middle leaf) id d is)) leaves p
          kept.each may kept.each;
      tile = tile_split None leaves p id d kept.tile kept.each may;
    } in
    same_rows leaves _ kept stays (λ k. value_split leaves kept p id d may k)

pub merged_stays : (leaves : List LeafView) (p d : ℕ) → AreLeaves leaves → may_merge_at leaves p ≡ true
    → SameTable leaves (merged_at p d leaves)
merged_stays leaves p d kept may =
    let stays : AreLeaves (merged_at p d leaves) = record {
      each = all_merged IsLeaf d leaves p
          (pair_with AreJoinable AreJoinable
          _ (λ left right pair again. kept_joined left right d pair.left_kept pair.right_kept pair.next) leaves p
          (joinable leaves p kept) (joinable leaves p kept))
          kept.each;
      tile = tile_merged None leaves p d kept.tile may;
    } in
    same_rows leaves _ kept stays (λ k. value_merged leaves kept p d k)

-- ---- honest leaves

all_both : (P Q : LeafView → Type 0) (leaves : List LeafView) → AllByRecursion P leaves → AllByRecursion Q leaves
    → AllByRecursion (λ (leaf : LeafView). P leaf × Q leaf) leaves
all_both P Q [] one two = tt
all_both P Q (leaf ∷ leaves) one two = ((one.0, two.0), all_both P Q leaves one.1 two.1)

pub performed_honest : (log : List Record) (leaves : List LeafView) (n : ℕ) (o : Op) → AreHonestLeaves log leaves
    → IsNextOn log (leaf_at leaves (key_of o)) n o
    → AreHonestLeaves log (performed_at leaves n o)
performed_honest log leaves n o honest next =
    all_changed (IsHonestLeaf log) (key_of o) (λ leaf. performed leaf n o) leaves
    (λ right. leaf_performed log (leaf_at leaves (key_of o)) n o right next) honest

pub raised_honest : (log : List Record) (leaves : List LeafView) (l : ℕ) → AreHonestLeaves log leaves
    → AllByRecursion (λ (leaf : LeafView). IsCapturedTo log leaf l) leaves
    → AreHonestLeaves log (map (λ leaf. raised_to leaf l) leaves)
raised_honest log leaves l honest captured =
    all_mapped (λ (leaf : LeafView). IsHonestLeaf log leaf × IsCapturedTo log leaf l) (IsHonestLeaf log)
    (λ leaf. raised_to leaf l)
    (λ leaf both. leaf_raised log leaf l both.0 both.1) leaves (all_both _ _ leaves honest captured)

pub split_honest : (log : List Record) (leaves : List LeafView) (p id d : ℕ) → AreLeaves leaves
    → may_split_at leaves p ≡ true → AreHonestLeaves log leaves
    → AreHonestLeaves log (split_at p id d leaves)
split_honest log leaves p id d kept may honest =
    all_split (IsHonestLeaf log) id d (λ leaf is may right.
    let cut = inside_fences leaf (middle leaf) (cuts_inside leaf is may) in
    (honest_lower log leaf (middle leaf) d right cut, honest_upper log leaf (middle leaf) id d right cut)) leaves p
    kept.each may honest

pub merged_honest : (log : List Record) (leaves : List LeafView) (p d : ℕ) → AreLeaves leaves → AreHonestLeaves log leaves
    → AreCapturedAt log leaves p
    → AreHonestLeaves log (merged_at p d leaves)
merged_honest log leaves p d kept honest captured =
    all_merged (IsHonestLeaf log) d leaves p (honest_merged_at log leaves p d kept honest captured) honest
