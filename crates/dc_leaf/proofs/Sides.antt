-- Both sides of a cut in an honest leaf are honest, and so is the leaf of two honest neighbours.
use Rattle.std.proofs.Common.{◌≡◌, ℕ, ◌≤◌, ◌==◌, ◌||◌, Bool, true, false, List, [], ◌∷◌, Option, refl, sym, ap, ◌∙◌, subst, inl, inr, true≢false, eqb-true}
use Rattle.std.specs.Prelude.{◌&&◌, not, nat_le}
use Rattle.std.specs.List.{AllByRecursion}
use Rattle.std.specs.FinMap as map
use Rattle.std.proofs.Math.Bool.{or_comm}
use Rattle.std.proofs.lemmas.Bool.{cases_Bool, cases_lt, or_cases, and_parts, lt-leb, not_from_false}
use Rattle.record_key.specs.declared.op.Op.{Op}
use Rattle.record_key.specs.Table.{Bytes, Table, key_of}
use Rattle.record_key.specs.Order.{is_below, starts_at_most, ends_above}
use Rattle.record_key.specs.Rows.{LieBetween}
use Rattle.record_key.specs.declared.entry.Entry.{Entry}
use Rattle.history.specs.declared.record.Record.{Record}
use Rattle.history.specs.Log.{Requests}
use Rattle.history.specs.Honest.{Numbered, numbered_on, IsHonestAt}
use Rattle.dc_ab_lsn.specs.AbLsn.{stands_in, captures}
use Rattle.dc_ab_lsn.specs.Parting.{is_under, is_from, entries_with, stands_with}
use Rattle.dc_ab_lsn.proofs.Capturing.{parted_captures, joined_captures}
use Rattle.dc_leaf.specs.Leaf.{LeafView, is_in_fences, IsLeaf}
use Rattle.dc_leaf.specs.Parting.{upper_of, lower_of, joined_of, AreNeighbours}
use Rattle.dc_leaf.specs.Honest.{IsSavedRight, IsHonestLeaf, IsCapturedTo}
use Rattle.dc_leaf.proofs.OnKey.{all_done, left_out_alike, value_alike}
use Rattle.dc_leaf.proofs.Performing.{one_request}
use Rattle.dc_leaf.proofs.Raising.{or_there}
use Rattle.dc_leaf.proofs.Halves.{all_kept, all_joined, lower_between, upper_between, get_retained, Apart, apart_of, first_again, second_again}

-- what captures the same of a log's numbers on a key, and holds the same there, is honest there too
pub honest_alike : (log : List Record) (old new : ℕ → Bool) (k : Bytes) (m n : Table)
    → ((l : ℕ) (o : Op) → Requests log l o → key_of o ≡ k → old l ≡ new l)
    → map.get n k ≡ map.get m k → IsHonestAt log old k (map.get m k) → IsHonestAt log new k (map.get n k)
honest_alike log old new k m n same value h =
    let alike : AllByRecursion (λ (d : Numbered). old d.number ≡ new d.number) (numbered_on k log) =
    all_done (λ (l : ℕ). old l ≡ new l) k log same in
    record {
      left_out = left_out_alike old new (numbered_on k log) alike h.left_out;
      right = value ∙ h.right ∙ value_alike old new (numbered_on k log) alike;
    }

-- ---- a cut

-- a number on a key that passes stands as before
one_entry : (n : ℕ) (e : Entry) (b : Bool) → (n ≡ e.number → b ≡ true) → (n == e.number) ≡ ((n == e.number) && b)
one_entry n e b passes =
    elim (cases_Bool (n == e.number)) [
      | inl same ↦ rw (same, passes (eqb-true n e.number same)) refl
      | inr apart ↦ rw apart refl
    ]

stands_left : (log : List Record) (test : Bytes → Bool) (n : ℕ) (o : Op) (es : List Entry) → Requests log n o
    → test (key_of o) ≡ true
    → AllByRecursion (IsSavedRight log) es → stands_in es n ≡ stands_with test es n
stands_left log test n o [] requests passes all = refl
stands_left log test n o (e ∷ es) requests passes all =
    let here : n ≡ e.number → test e.key ≡ true = λ is.
    let same : all.0.op ≡ o =
    one_request log n o all.0.op requests (subst (λ (m : ℕ). Requests log m all.0.op) (sym is) all.0.requests) in
    ap test (sym all.0.on_key ∙ ap key_of same) ∙ passes in
    λ i. one_entry n e (test e.key) here i || stands_left log test n o es requests passes all.1 i

pub captured_left : (log : List Record) (leaf : LeafView) (test : Bytes → Bool) (k : Bytes) → IsHonestLeaf log leaf
    → test k ≡ true
    → (n : ℕ) (o : Op) → Requests log n o → key_of o ≡ k
    → captures leaf.ab n ≡ captures (record { low = leaf.ab.low; entries = entries_with test leaf.ab.entries }) n
captured_left log leaf test k honest passes n o requests on =
    ap (λ (b : Bool). nat_le n leaf.ab.low || b)
    (stands_left log test n o leaf.ab.entries requests (ap test on ∙ passes) honest.saved)
    ∙ sym (parted_captures leaf.ab.low leaf.ab.entries test n)

pub honest_lower : (log : List Record) (leaf : LeafView) (k : Bytes) (d : ℕ) → IsHonestLeaf log leaf
    → is_in_fences leaf k ≡ true
    → IsHonestLeaf log (lower_of leaf k d)
honest_lower log leaf k d honest inside = record {
  at = λ q within.
      let passes : is_under k q ≡ true = (and_parts (starts_at_most leaf.low_fence q) (is_below q k) within).1 in
      let ends : ends_above leaf.high_fence k ≡ true = (and_parts (starts_at_most leaf.low_fence k) _ inside).1 in
      honest_alike log (λ (m : ℕ). captures leaf.ab m) (λ (m : ℕ). captures (lower_of leaf k d).ab m) q leaf.rows
      (lower_of leaf k d).rows
      (captured_left log leaf (is_under k) q honest passes) (get_retained leaf.rows (is_under k) q passes)
      (honest.at q (lower_between leaf.low_fence leaf.high_fence k q ends within));
  saved = all_kept (IsSavedRight log) (IsSavedRight log) (λ (e : Entry). is_under k e.key) (λ e right passes. right)
      leaf.ab.entries honest.saved;
}

pub honest_upper : (log : List Record) (leaf : LeafView) (k : Bytes) (id d : ℕ) → IsHonestLeaf log leaf
    → is_in_fences leaf k ≡ true
    → IsHonestLeaf log (upper_of leaf k id d)
honest_upper log leaf k id d honest inside = record {
  at = λ q within.
      let passes : is_from k q ≡ true = (and_parts (not (is_below q k)) (ends_above leaf.high_fence q) within).0 in
      let starts : starts_at_most leaf.low_fence k ≡ true = (and_parts _ (ends_above leaf.high_fence k) inside).0 in
      honest_alike log (λ (m : ℕ). captures leaf.ab m) (λ (m : ℕ). captures (upper_of leaf k id d).ab m) q leaf.rows
      (upper_of leaf k id d).rows
      (captured_left log leaf (is_from k) q honest passes) (get_retained leaf.rows (is_from k) q passes)
      (honest.at q (upper_between leaf.low_fence leaf.high_fence k q starts within));
  saved = all_kept (IsSavedRight log) (IsSavedRight log) (λ (e : Entry). is_from k e.key) (λ e right passes. right)
      leaf.ab.entries honest.saved;
}

-- ---- a join

-- an entry of this number has the key of its request, which lies where all entries' do
entry_key : (log : List Record) (low high : Bytes → Bool) (n : ℕ) (o : Op) (es : List Entry) → Requests log n o
    → AllByRecursion (λ (e : Entry). (low e.key && high e.key) ≡ true) es → AllByRecursion (IsSavedRight log) es
    → stands_in es n ≡ true
    → (low (key_of o) && high (key_of o)) ≡ true
entry_key log low high n o [] requests inside all there = absurd (true≢false (sym there))
entry_key log low high n o (e ∷ es) requests inside all there =
    elim (or_cases (n == e.number) (stands_in es n) there) [
      | inl here ↦
          let is : n ≡ e.number = eqb-true n e.number here in
          let same : all.0.op ≡ o =
          one_request log n o all.0.op requests
          (subst (λ (m : ℕ). Requests log m all.0.op) (sym is) all.0.requests) in
          ap (λ (k : Bytes). low k && high k) (ap key_of (sym same) ∙ all.0.on_key) ∙ inside.0
      | inr later ↦ entry_key log low high n o es requests inside.1 all.1 later
    ]

-- a number on a key of one leaf, that another leaf with other keys captures, is at most the other's low number
only_low : (log : List Record) (other : LeafView) (n : ℕ) (o : Op) → IsLeaf other → IsHonestLeaf log other
    → Requests log n o
    → is_in_fences other (key_of o) ≡ false → captures other.ab n ≡ true → n ≤ other.ab.low
only_low log other n o kept honest requests outside captured =
    elim (cases_lt other.ab.low n) [
      | inl lt ↦
          let there : stands_in other.ab.entries n ≡ true =
          sym (ap (λ (b : Bool). b || stands_in other.ab.entries n) (lt-leb n other.ab.low lt)) ∙ captured in
          absurd (true≢false (sym (entry_key log (starts_at_most other.low_fence) (ends_above other.high_fence) n o
          other.ab.entries requests kept.entries honest.saved there) ∙ outside))
      | inr ge ↦ ge
    ]

-- so what both capture of the numbers on a leaf's keys, that leaf captures
pub captured_both : (log : List Record) (leaf other : LeafView) (k : Bytes) → IsLeaf other → IsHonestLeaf log other
    → IsCapturedTo log leaf other.ab.low
    → is_in_fences leaf k ≡ true → is_in_fences other k ≡ false
    → (n : ℕ) (o : Op) → Requests log n o → key_of o ≡ k
    → captures leaf.ab n ≡ (captures leaf.ab n || captures other.ab n)
captured_both log leaf other k kept honest to inside outside n o requests on =
    or_there (captures leaf.ab n) (captures other.ab n) (λ captured.
    to.all n o requests (ap (is_in_fences leaf) on ∙ inside)
    (only_low log other n o kept honest requests (ap (is_in_fences other) on ∙ outside) captured))

-- the keys of two neighbours don't meet
pub neighbours_apart : (left right : LeafView) → IsLeaf left → IsLeaf right → (next : AreNeighbours left right)
    → Apart next.fence (map.entries left.rows) (map.entries right.rows)
neighbours_apart left right left_kept right_kept next =
    apart_of left.low_fence right.high_fence next.fence (map.entries left.rows) (map.entries right.rows)
    (subst (λ (f : Option Bytes). LieBetween left.low_fence f (map.entries left.rows)) next.ends left_kept.rows)
    (subst (λ (f : Option Bytes). LieBetween f right.high_fence (map.entries right.rows)) next.begins right_kept.rows)

module _ (log : List Record) (left right : LeafView) (d : ℕ) (left_kept : IsLeaf left) (right_kept : IsLeaf right)
    (next : AreNeighbours left right)
    (left_honest : IsHonestLeaf log left) (right_honest : IsHonestLeaf log right)
    (left_to : IsCapturedTo log left right.ab.low) (right_to : IsCapturedTo log right left.ab.low) where
  apart : Apart next.fence (map.entries left.rows) (map.entries right.rows)
  apart = neighbours_apart left right left_kept right_kept next

  abbrev new : ℕ → Bool
  new m = captures (joined_of left right d).ab m

  on_left : (k : Bytes) → is_in_fences (joined_of left right d) k ≡ true → is_below k next.fence ≡ true
      → IsHonestAt log new k (map.get (joined_of left right d).rows k)
  on_left k within under =
      let inside : is_in_fences left k ≡ true =
      rw (next.ends, (and_parts (starts_at_most left.low_fence k) _ within).0, under) refl in
      let outside : is_in_fences right k ≡ false = rw (next.begins, under) refl in
      honest_alike log (λ (m : ℕ). captures left.ab m) new k left.rows (joined_of left right d).rows
      (λ n o requests on. captured_both log left right k right_kept right_honest left_to inside outside n o requests on
      ∙ sym (joined_captures left.ab right.ab n))
      (sym (get_retained (joined_of left right d).rows (is_under next.fence) k under)
      ∙ ap (λ (m : Table). map.get m k) (first_again next.fence left.rows right.rows apart))
      (left_honest.at k inside)

  on_right : (k : Bytes) → is_in_fences (joined_of left right d) k ≡ true → is_below k next.fence ≡ false
      → IsHonestAt log new k (map.get (joined_of left right d).rows k)
  on_right k within free =
      let inside : is_in_fences right k ≡ true =
      rw (next.begins, free, (and_parts _ (ends_above right.high_fence k) within).1) refl in
      let outside : is_in_fences left k ≡ false = rw (next.ends, free) (no_end (starts_at_most left.low_fence k)) in
      honest_alike log (λ (m : ℕ). captures right.ab m) new k right.rows (joined_of left right d).rows
      (λ n o requests on. captured_both log right left k left_kept left_honest right_to inside outside n o requests on
      ∙ or_comm (captures right.ab n) (captures left.ab n) ∙ sym (joined_captures left.ab right.ab n))
      (sym (get_retained (joined_of left right d).rows (is_from next.fence) k
      (not_from_false (is_below k next.fence) free))
      ∙ ap (λ (m : Table). map.get m k) (second_again next.fence left.rows right.rows apart))
      (right_honest.at k inside)
    where
      no_end : (b : Bool) → (b && false) ≡ false
      no_end true = refl
      no_end false = refl

  pub honest_joined : IsHonestLeaf log (joined_of left right d)
  honest_joined = record {
    at = λ k within. elim (cases_Bool (is_below k next.fence)) [
      | inl under ↦ on_left k within under
      | inr free ↦ on_right k within free
    ];
    saved = all_joined (IsSavedRight log) left.ab right.ab left_honest.saved right_honest.saved;
  }
