-- The leaf of a key before and after each step among leaves.
use Rattle.std.proofs.Common.{◌≡◌, ◌≢◌, ℕ, ◌+◌, ◌<◌, ◌||◌, ◌==◌, Bool, true, false, List, [], ◌∷◌, length, None, map, refl, sym, ap, ◌∙◌, arith, inl, inr, eq-eqb, ne_eqb}
use Rattle.std.specs.Prelude.{nat_le}
use Rattle.std.specs.List.{AllByRecursion}
use Rattle.std.specs.FinMap as table
use Rattle.std.proofs.Math.Bool.{or_comm, or-true, or-false}
use Rattle.std.proofs.lemmas.Bool.{cases_Bool, not_from_false, and_right}
use Rattle.record_key.specs.declared.op.Op.{Op}
use Rattle.record_key.specs.Table.{Bytes, Table, key_of, value_after}
use Rattle.record_key.specs.Order.{is_below, starts_at_most}
use Rattle.record_key.proofs.Tables.{get-with_record_same, get-with_record_other}
use Rattle.history.specs.declared.record.Record.{Record}
use Rattle.history.specs.Log.{Requests}
use Rattle.dc_ab_lsn.specs.AbLsn.{captures}
use Rattle.dc_ab_lsn.specs.Parting.{is_under, is_from}
use Rattle.dc_ab_lsn.proofs.Capturing.{noted_captures, raised_captures, joined_captures}
use Rattle.dc_leaf.specs.Leaf.{LeafView, is_in_fences, performed, raised_to}
use Rattle.dc_leaf.specs.Parting.{joined_of, AreNeighbours}
use Rattle.dc_leaf.specs.Tiles.{part_of}
use Rattle.dc_leaf.specs.Honest.{IsHonestLeaf, IsCapturedTo}
use Rattle.dc_leaf.proofs.Halves.{get_retained, first_again, second_again}
use Rattle.dc_leaf.proofs.Sides.{captured_left, captured_both, honest_joined}
use Rattle.dc_tree.specs.Leaves.{AreLeaves, leaf_at, place_at, changed_at}
use Rattle.dc_tree.specs.Parting.{middle, may_split_at, split_at, merged_at}
use Rattle.dc_tree.specs.Performs.{performed_at}
use Rattle.dc_tree.specs.TreeLaw.{AreHonestLeaves, AreCapturedAt}
use Rattle.dc_tree.proofs.Tiling.{within_from, there_from, same_from}
use Rattle.dc_leaf.proofs.Sides.{neighbours_apart}
use Rattle.dc_tree.proofs.Changing.{changed_same, changed_other, leaf_mapped}
use Rattle.dc_tree.proofs.Splitting.{leaf_split}
use Rattle.dc_tree.proofs.Merging.{AtPair, AreJoinable, joinable, pair_with, pair_all, at_pair, leaf_merged, under_next, past_next}

-- ---- any leaves

pub within_at : (leaves : List LeafView) (k : Bytes) → AreLeaves leaves → is_in_fences (leaf_at leaves k) k ≡ true
within_at leaves k kept = within_from None leaves k kept.tile refl

-- what all leaves have, the leaf of a key has
all_there : (P : LeafView → Type 0) (leaves : List LeafView) (k : Bytes) → place_at leaves k < length leaves
    → AllByRecursion P leaves → P (leaf_at leaves k)
all_there P [] k there all = absurd (omega (arith, there))
all_there P (leaf ∷ leaves) k there all =
    elim (cases_Bool (is_in_fences leaf k)) [
      | inl here ↦ rw here all.0
      | inr later ↦
          let less : place_at leaves k + 1 < length (leaf ∷ leaves) = rw later at there in
          rw later (all_there P leaves k (omega (arith, less)) all.1)
    ]

pub all_at : (P : LeafView → Type 0) (leaves : List LeafView) (k : Bytes) → AreLeaves leaves → AllByRecursion P leaves
    → P (leaf_at leaves k)
all_at P leaves k kept all = all_there P leaves k (there_from None leaves k kept.tile refl) all

-- a key that lies in the leaf of another has that very leaf
pub same_leaf : (leaves : List LeafView) (k q : Bytes) → AreLeaves leaves → is_in_fences (leaf_at leaves k) q ≡ true
    → leaf_at leaves q ≡ leaf_at leaves k
same_leaf leaves k q kept inside = same_from None leaves k q kept.tile refl inside

-- ---- the leaf of a key changed

module _ (change : LeafView → LeafView) (part_kept : (leaf : LeafView) → part_of (change leaf) ≡ part_of leaf)
    (leaves : List LeafView) (kept : AreLeaves leaves) (k : Bytes) where
  pub leaf_changed : (q : Bytes) → is_in_fences (leaf_at leaves k) q ≡ true
      → leaf_at (changed_at k change leaves) q ≡ change (leaf_at leaves q)
  leaf_changed q inside = changed_same change part_kept None leaves k q kept.tile refl inside
      ∙ ap change (sym (same_leaf leaves k q kept inside))

  pub leaf_unchanged : (q : Bytes) → is_in_fences (leaf_at leaves k) q ≡ false
      → leaf_at (changed_at k change leaves) q ≡ leaf_at leaves q
  leaf_unchanged q outside = changed_other change part_kept leaves k q outside

-- ---- an operation

module _ (leaves : List LeafView) (kept : AreLeaves leaves) (n : ℕ) (o : Op) where
  -- the leaf of the operation's key performs it, and the leaves of keys that don't lie there stay
  pub leaf_performed : (k : Bytes) → is_in_fences (leaf_at leaves (key_of o)) k ≡ true
      → leaf_at (performed_at leaves n o) k ≡ performed (leaf_at leaves k) n o
  leaf_performed k inside = leaf_changed (λ leaf. performed leaf n o) (λ leaf. refl) leaves kept (key_of o) k inside

  pub leaf_not_performed : (k : Bytes) → is_in_fences (leaf_at leaves (key_of o)) k ≡ false
      → leaf_at (performed_at leaves n o) k ≡ leaf_at leaves k
  leaf_not_performed k outside =
      leaf_unchanged (λ leaf. performed leaf n o) (λ leaf. refl) leaves kept (key_of o) k outside

  pub value_performed : table.get (leaf_at (performed_at leaves n o) (key_of o)).rows (key_of o)
      ≡ value_after o (table.get (leaf_at leaves (key_of o)).rows (key_of o))
  value_performed =
      ap (λ (leaf : LeafView). table.get leaf.rows (key_of o))
      (leaf_performed (key_of o) (within_at leaves (key_of o) kept))
      ∙ get-with_record_same (leaf_at leaves (key_of o)).rows (key_of o)
      (value_after o (table.get (leaf_at leaves (key_of o)).rows (key_of o)))

  pub value_not_performed : (k : Bytes) → k ≢ key_of o
      → table.get (leaf_at (performed_at leaves n o) k).rows k ≡ table.get (leaf_at leaves k).rows k
  value_not_performed k apart =
      elim (cases_Bool (is_in_fences (leaf_at leaves (key_of o)) k)) [
        | inl inside ↦
            ap (λ (leaf : LeafView). table.get leaf.rows k) (leaf_performed k inside)
            ∙ get-with_record_other (leaf_at leaves k).rows (key_of o) k
            (value_after o (table.get (leaf_at leaves k).rows (key_of o))) apart
        | inr outside ↦ ap (λ (leaf : LeafView). table.get leaf.rows k) (leaf_not_performed k outside)
      ]

  -- the leaf of the operation's key has captured its number, and nothing else changes
  captured_by : (leaf : LeafView) (m : ℕ) → captures (performed leaf n o).ab m ≡ (captures leaf.ab m || (m == n))
  captured_by leaf m = noted_captures leaf.ab n (key_of o) _ m

  pub captured_performed : captures (leaf_at (performed_at leaves n o) (key_of o)).ab n ≡ true
  captured_performed =
      ap (λ (leaf : LeafView). captures leaf.ab n) (leaf_performed (key_of o) (within_at leaves (key_of o) kept))
      ∙ captured_by (leaf_at leaves (key_of o)) n
      ∙ ap (λ (b : Bool). captures (leaf_at leaves (key_of o)).ab n || b) (eq-eqb n n refl)
      ∙ or-true (captures (leaf_at leaves (key_of o)).ab n)

  pub captured_not_performed : (k : Bytes) (m : ℕ) → m ≢ n
      → captures (leaf_at (performed_at leaves n o) k).ab m ≡ captures (leaf_at leaves k).ab m
  captured_not_performed k m apart =
      elim (cases_Bool (is_in_fences (leaf_at leaves (key_of o)) k)) [
        | inl inside ↦
            ap (λ (leaf : LeafView). captures leaf.ab m) (leaf_performed k inside)
            ∙ captured_by (leaf_at leaves k) m
            ∙ ap (λ (b : Bool). captures (leaf_at leaves k).ab m || b) (ne_eqb m n apart)
            ∙ or-false (captures (leaf_at leaves k).ab m)
        | inr outside ↦ ap (λ (leaf : LeafView). captures leaf.ab m) (leaf_not_performed k outside)
      ]

-- ---- the low numbers raised

module _ (leaves : List LeafView) (kept : AreLeaves leaves) (l : ℕ) (k : Bytes) where
  pub leaf_raised : leaf_at (map (λ leaf. raised_to leaf l) leaves) k ≡ raised_to (leaf_at leaves k) l
  leaf_raised = leaf_mapped (λ leaf. raised_to leaf l) (λ leaf. refl) leaves k (there_from None leaves k kept.tile refl)

  pub value_raised : table.get (leaf_at (map (λ leaf. raised_to leaf l) leaves) k).rows k
      ≡ table.get (leaf_at leaves k).rows k
  value_raised = ap (λ (leaf : LeafView). table.get leaf.rows k) leaf_raised

  pub captured_raised : (n : ℕ)
      → captures (leaf_at (map (λ leaf. raised_to leaf l) leaves) k).ab n
      ≡ (captures (leaf_at leaves k).ab n || nat_le n l)
  captured_raised n = ap (λ (leaf : LeafView). captures leaf.ab n) leaf_raised
      ∙ raised_captures (leaf_at leaves k).ab l n

-- ---- a leaf parted

module _ (leaves : List LeafView) (kept : AreLeaves leaves) (p id d : ℕ) (may : may_split_at leaves p ≡ true)
    (k : Bytes) where
  pub value_split : table.get (leaf_at (split_at p id d leaves) k).rows k ≡ table.get (leaf_at leaves k).rows k
  value_split =
      elim (leaf_split leaves p id d k kept.each may) [
        | inl same ↦ ap (λ (leaf : LeafView). table.get leaf.rows k) same
        | inr half ↦ elim half [
          | inl lower ↦
              ap (λ (leaf : LeafView). table.get leaf.rows k) lower.is
              ∙ get_retained (leaf_at leaves k).rows (is_under (middle (leaf_at leaves k))) k lower.under
          | inr upper ↦
              ap (λ (leaf : LeafView). table.get leaf.rows k) upper.is
              ∙ get_retained (leaf_at leaves k).rows (is_from (middle (leaf_at leaves k))) k upper.from
        ]
      ]

  -- of the log's numbers on the key
  pub captured_split : (log : List Record) → AreHonestLeaves log leaves → (n : ℕ) (o : Op) → Requests log n o → key_of o ≡ k
      → captures (leaf_at (split_at p id d leaves) k).ab n ≡ captures (leaf_at leaves k).ab n
  captured_split log honest n o requests on =
      let leaf : LeafView = leaf_at leaves k in
      let right : IsHonestLeaf log leaf = all_at (IsHonestLeaf log) leaves k kept honest in
      elim (leaf_split leaves p id d k kept.each may) [
        | inl same ↦ ap (λ (leaf : LeafView). captures leaf.ab n) same
        | inr half ↦ elim half [
          | inl lower ↦ ap (λ (leaf : LeafView). captures leaf.ab n) lower.is
              ∙ sym (captured_left log leaf (is_under (middle leaf)) k right lower.under n o requests on)
          | inr upper ↦ ap (λ (leaf : LeafView). captures leaf.ab n) upper.is
              ∙ sym (captured_left log leaf (is_from (middle leaf)) k right upper.from n o requests on)
        ]
      ]

-- ---- two neighbours joined

near : (left right : LeafView) → AreJoinable left right → AreNeighbours left right
near left right pair = pair.next

value_in_left : (left right : LeafView) (d : ℕ) (k : Bytes) → AreJoinable left right → is_in_fences left k ≡ true
    → table.get (joined_of left right d).rows k ≡ table.get left.rows k
value_in_left left right d k pair held =
    let under : is_below k pair.next.fence ≡ true = under_next left right pair.next k held in
    sym (get_retained (joined_of left right d).rows (is_under pair.next.fence) k under)
    ∙ ap (λ (m : Table). table.get m k)
    (first_again pair.next.fence left.rows right.rows
    (neighbours_apart left right pair.left_kept pair.right_kept pair.next))

value_in_right : (left right : LeafView) (d : ℕ) (k : Bytes) → AreJoinable left right → is_in_fences right k ≡ true
    → table.get (joined_of left right d).rows k ≡ table.get right.rows k
value_in_right left right d k pair held =
    let from : is_from pair.next.fence k ≡ true =
    not_from_false (is_below k pair.next.fence) (past_next left right pair.next k held) in
    sym (get_retained (joined_of left right d).rows (is_from pair.next.fence) k from)
    ∙ ap (λ (m : Table). table.get m k)
    (second_again pair.next.fence left.rows right.rows
    (neighbours_apart left right pair.left_kept pair.right_kept pair.next))

pub value_merged : (leaves : List LeafView) → AreLeaves leaves → (p d : ℕ) (k : Bytes)
    → table.get (leaf_at (merged_at p d leaves) k).rows k ≡ table.get (leaf_at leaves k).rows k
value_merged leaves kept p d k =
    elim (leaf_merged AreJoinable near d k leaves p (joinable leaves p kept)) [
      | inl same ↦ ap (λ (leaf : LeafView). table.get leaf.rows k) same
      | inr both ↦ elim both [
        | inl left ↦ ap (λ (leaf : LeafView). table.get leaf.rows k) left.is
            ∙ value_in_left (leaf_at leaves k) left.right d k left.pair left.held
        | inr right ↦ ap (λ (leaf : LeafView). table.get leaf.rows k) right.is
            ∙ value_in_right right.left (leaf_at leaves k) d k right.pair right.held
      ]
    ]

-- two honest neighbours, each of which has captured the log's numbers up to the other's low number
record AreHonestBoth (log : List Record) (left right : LeafView) : Type 0 where
  pub pair : AreJoinable left right
  pub honest : IsHonestLeaf log left × IsHonestLeaf log right
  pub captured : IsCapturedTo log left right.ab.low × IsCapturedTo log right left.ab.low

honest_pair : (log : List Record) (leaves : List LeafView) (p : ℕ) → AreLeaves leaves → AreHonestLeaves log leaves
    → AreCapturedAt log leaves p
    → AtPair (AreHonestBoth log) leaves p
honest_pair log leaves p kept honest captured =
    let known : AtPair (λ left right. (IsHonestLeaf log left × IsHonestLeaf log right)
    × (IsCapturedTo log left right.ab.low × IsCapturedTo log right left.ab.low)) leaves p =
    pair_with _ _ _ (λ left right one two. (one, two)) leaves p
    (pair_all (IsHonestLeaf log) leaves p honest)
    (at_pair (λ left right. IsCapturedTo log left right.ab.low × IsCapturedTo log right left.ab.low) leaves p
    (captured.left, captured.right)) in
    pair_with _ _ (AreHonestBoth log)
    (λ left right pair both. record { pair = pair; honest = both.0; captured = both.1 }) leaves p
    (joinable leaves p kept) known

pub honest_merged_at : (log : List Record) (leaves : List LeafView) (p d : ℕ) → AreLeaves leaves → AreHonestLeaves log leaves
    → AreCapturedAt log leaves p
    → AtPair (λ left right. IsHonestLeaf log (joined_of left right d)) leaves p
honest_merged_at log leaves p d kept honest captured =
    pair_with (AreHonestBoth log) (AreHonestBoth log) _ (λ left right both again.
    honest_joined log left right d both.pair.left_kept both.pair.right_kept both.pair.next both.honest.0 both.honest.1
    both.captured.0 both.captured.1)
    leaves p (honest_pair log leaves p kept honest captured) (honest_pair log leaves p kept honest captured)

captured_in_left : (log : List Record) (left right : LeafView) (d : ℕ) (k : Bytes) → AreHonestBoth log left right
    → is_in_fences left k ≡ true
    → (n : ℕ) (o : Op) → Requests log n o → key_of o ≡ k → captures (joined_of left right d).ab n ≡ captures left.ab n
captured_in_left log left right d k both held n o requests on =
    let next = both.pair.next in
    let outside : is_in_fences right k ≡ false = rw (next.begins, under_next left right next k held) refl in
    joined_captures left.ab right.ab n
    ∙ sym (captured_both log left right k both.pair.right_kept both.honest.1 both.captured.0 held outside n o requests
    on)

captured_in_right : (log : List Record) (left right : LeafView) (d : ℕ) (k : Bytes) → AreHonestBoth log left right
    → is_in_fences right k ≡ true
    → (n : ℕ) (o : Op) → Requests log n o → key_of o ≡ k → captures (joined_of left right d).ab n ≡ captures right.ab n
captured_in_right log left right d k both held n o requests on =
    let next = both.pair.next in
    let outside : is_in_fences left k ≡ false =
    rw (next.ends, past_next left right next k held) (and_right (starts_at_most left.low_fence k) false refl) in
    joined_captures left.ab right.ab n
    ∙ or_comm (captures left.ab n) (captures right.ab n)
    ∙ sym (captured_both log right left k both.pair.left_kept both.honest.0 both.captured.1 held outside n o requests
    on)

-- of the log's numbers on the key
pub captured_merged : (log : List Record) (leaves : List LeafView) → AreLeaves leaves → AreHonestLeaves log leaves
    → (p d : ℕ) → AreCapturedAt log leaves p → (k : Bytes)
    → (n : ℕ) (o : Op) → Requests log n o → key_of o ≡ k
    → captures (leaf_at (merged_at p d leaves) k).ab n ≡ captures (leaf_at leaves k).ab n
captured_merged log leaves kept honest p d captured k n o requests on =
    elim (leaf_merged (AreHonestBoth log) (λ left right both. both.pair.next) d k leaves p
    (honest_pair log leaves p kept honest captured)) [
      | inl same ↦ ap (λ (leaf : LeafView). captures leaf.ab n) same
      | inr both ↦ elim both [
        | inl left ↦
            ap (λ (leaf : LeafView). captures leaf.ab n) left.is
            ∙ captured_in_left log (leaf_at leaves k) left.right d k left.pair left.held n o requests on
        | inr right ↦
            ap (λ (leaf : LeafView). captures leaf.ab n) right.is
            ∙ captured_in_right log right.left (leaf_at leaves k) d k right.pair right.held n o requests on
      ]
    ]
