-- Nodes of which one was changed: no leaf below them is large and no two may be joined, where that was so before and is
-- so of the changed one and beside it.
use Rattle.std.proofs.Common.{◌≡◌, ℕ, zero, suc, ◌-◌, ◌<◌, ◌≤◌, true, false, List, [], ◌∷◌, ◌++◌, length, get_or, set, take, drop, take_all, Option, Some, None, refl, sym, ap, ◌∙◌, arith, append-nil, inl, inr, true≢false}
use Rattle.std.specs.Prelude.{not, ◌&&◌}
use Rattle.std.specs.Option.{is_some}
use Rattle.std.proofs.lemmas.Bool.{cases_lt}
use Rattle.std.proofs.lemmas.List.{drop_all, set-set, set-get_or}
use Rattle.dc_leaf.specs.Leaf.{LeafView}
use Rattle.dc_tree.specs.Choosing.{pair_top, least, extent_first, extent_last, summary_of, both_of, is_quiet}
use Rattle.dc_tree.specs.declared.tree.summary.Summary.{Summary}
use Rattle.dc_tree.specs.Nodes.{TreeNodeView, nothing, under, AreChildren}
use Rattle.dc_tree.specs.Parting.{are_few}
use Rattle.dc_tree.specs.Quiet.{WasSummary, IsQuietAt}
use Rattle.dc_tree.proofs.AtPlace.{under_set}
use Rattle.dc_tree.proofs.FirstBelow.{begins, first_rest}
use Rattle.dc_tree.proofs.Summed.{summary_append, last_both}
use Rattle.dc_tree.proofs.Under.{under_more, under_parts}
use Rattle.dc_tree.proofs.Whole.{all_get}

-- ---- what is kept of leaves, and of leaves beside others

none_both : (a b : Option ℕ) → (not (is_some a) && not (is_some b)) ≡ true → (a ≡ None) × (b ≡ None)
none_both None None quiet = (refl, refl)
none_both None (Some m) quiet = absurd (true≢false (sym quiet))
none_both (Some l) b quiet = absurd (true≢false (sym quiet))

pub quiet_none : (s : Summary) → is_quiet s ≡ true → (s.large ≡ None) × (s.pair ≡ None)
quiet_none s quiet = none_both s.large s.pair quiet

least_none : (a b : Option ℕ) → least a b ≡ None → (a ≡ None) × (b ≡ None)
least_none None b none = (refl, none)
least_none (Some l) None none = absurd (true≢false (ap is_some none))
least_none (Some l) (Some m) none = absurd (true≢false (ap is_some none))

none_quiet : (a b : Option ℕ) → a ≡ None → b ≡ None → (not (is_some a) && not (is_some b)) ≡ true
none_quiet a b one other = rw (one, other) refl

parts_quiet : (s t : Summary) → is_quiet (both_of s t) ≡ true → (is_quiet s ≡ true) × (is_quiet t ≡ true)
parts_quiet s t quiet =
    let none = quiet_none (both_of s t) quiet in
    let large = least_none s.large t.large none.0 in
    let pair = least_none s.pair (least (pair_top s.last t.first) t.pair) none.1 in
    let later = least_none (pair_top s.last t.first) t.pair pair.1 in
    (none_quiet s.large s.pair large.0 pair.0, none_quiet t.large t.pair large.1 later.1)

both_quiet : (s t : Summary) → is_quiet s ≡ true → is_quiet t ≡ true → are_few s.last.count t.first.count ≡ false
    → is_quiet (both_of s t) ≡ true
both_quiet s t one other apart =
    let left = quiet_none s one in
    let right = quiet_none t other in
    rw (left.0, left.1, right.0, right.1, apart) refl

-- ---- leaves of which some in a row were others

module _ (was is back : List LeafView) (some : 0 < length was) (more : 0 < length is)
    (inside : is_quiet (summary_of is) ≡ true)
    (right : 0 < length back → are_few (extent_last is).count (extent_first back).count ≡ false) where
  back_quiet : is_quiet (summary_of (was ++ back)) ≡ true → is_quiet (summary_of (is ++ back)) ≡ true
  back_quiet before = by back right before
    where
      by : (back : List LeafView)
          → (0 < length back → are_few (extent_last is).count (extent_first back).count ≡ false)
          → is_quiet (summary_of (was ++ back)) ≡ true → is_quiet (summary_of (is ++ back)) ≡ true
      by [] right before = ap (λ (xs : List LeafView). is_quiet (summary_of xs)) (append-nil is) ∙ inside
      by (y ∷ ys) right before =
          let parts = parts_quiet (summary_of was) (summary_of (y ∷ ys))
          (ap is_quiet (sym (summary_append was (y ∷ ys) some (omega arith))) ∙ before) in
          ap is_quiet (summary_append is (y ∷ ys) more (omega arith))
          ∙ both_quiet (summary_of is) (summary_of (y ∷ ys)) inside parts.1 (right (omega arith))

  longer : (xs : List LeafView) → 0 < length xs → 0 < length (xs ++ back)
  longer [] none = absurd (omega (arith, none))
  longer (x ∷ xs) there = omega arith

  among_quiet : (front : List LeafView)
      → (0 < length front → are_few (extent_last front).count (extent_first is).count ≡ false)
      → is_quiet (summary_of (front ++ (was ++ back))) ≡ true → is_quiet (summary_of (front ++ (is ++ back))) ≡ true
  among_quiet [] left before = back_quiet before
  among_quiet (x ∷ xs) left before =
      let parts = parts_quiet (summary_of (x ∷ xs)) (summary_of (was ++ back))
      (ap is_quiet (sym (summary_append (x ∷ xs) (was ++ back) (omega arith) (longer was some))) ∙ before) in
      ap is_quiet (summary_append (x ∷ xs) (is ++ back) (omega arith) (longer is more))
      ∙ both_quiet (summary_of (x ∷ xs)) (summary_of (is ++ back)) parts.0 (back_quiet parts.1)
      (ap (λ e. are_few (extent_last (x ∷ xs)).count e.count) (begins is back more) ∙ left (omega arith))

-- ---- the ends of nodes

ends : (xs ys : List LeafView) → 0 < length ys → extent_last (xs ++ ys) ≡ extent_last ys
ends [] ys some = refl
ends (x ∷ xs) ys some = last_both x xs ys some

-- the last leaf below the first of some nodes is that of the last of these
last_taken : (height : ℕ) (ns : List TreeNodeView) (i : ℕ) → 0 < i → i ≤ length ns → AreChildren height ns
    → extent_last (under (take i ns)) ≡ extent_last (get_or ns (i - 1) nothing).leaves
last_taken height ns zero some within are = absurd (omega (arith, some))
last_taken height ns (suc i) some within are =
    ap extent_last (under_more ns i nothing (omega (arith, within)))
    ∙ ends (under (take i ns)) (get_or ns i nothing).leaves (all_get _ ns i nothing (omega (arith, within)) are).whole.some
    ∙ ap (λ (j : ℕ). extent_last (get_or ns j nothing).leaves) (omega arith)

pub last_below : (height : ℕ) (ns : List TreeNodeView) → 0 < length ns → AreChildren height ns
    → extent_last (under ns) ≡ extent_last (get_or ns (length ns - 1) nothing).leaves
last_below height ns some are =
    ap (λ (ms : List TreeNodeView). extent_last (under ms)) (sym (take_all (length ns) ns (omega arith)))
    ∙ last_taken height ns (length ns) some (omega arith) are

pub first_below : (height : ℕ) (ns : List TreeNodeView) → 0 < length ns → AreChildren height ns
    → extent_first (under ns) ≡ extent_first (get_or ns 0 nothing).leaves
first_below height [] some are = absurd (omega (arith, some))
first_below height (n ∷ ns) some are = begins n.leaves (under ns) are.0.whole.some

-- ---- nodes of which one was another

pub was_kept : (ns : List TreeNodeView) (i : ℕ) (n : TreeNodeView) → 0 < length (get_or ns i nothing).leaves
    → WasSummary (set ns i n) i (summary_of (under ns))
was_kept ns i n some = record {
  node = get_or ns i nothing;
  some = some;
  is = ap (λ (ms : List TreeNodeView). summary_of (under ms))
      (sym (set-set ns i n (get_or ns i nothing) ∙ set-get_or ns i nothing));
}

module _ (height : ℕ) (ns : List TreeNodeView) (i : ℕ) (there : i < length ns) (are : AreChildren height ns) where
  some_before : 0 < length (under (take i ns)) → 0 < i
  some_before some = by i some
    where
      by : (i : ℕ) → 0 < length (under (take i ns)) → 0 < i
      by zero none = absurd (omega (arith, none))
      by (suc i) some = omega arith

  some_after : 0 < length (under (drop (suc i) ns)) → suc i < length ns
  some_after some =
      elim (cases_lt (suc i) (length ns)) [
        | inl less ↦ less
        | inr last ↦
            absurd (omega (arith, some, ap (λ (ms : List TreeNodeView). length (under ms)) (drop_all (suc i) ns last)))
      ]

  pub still_quiet : (before : Summary) → WasSummary ns i before → is_quiet before ≡ true → IsQuietAt ns i
      → is_quiet (summary_of (under ns)) ≡ true
  still_quiet before was quiet at =
      ap (λ (leaves : List LeafView). is_quiet (summary_of leaves)) (under_parts ns i nothing there)
      ∙ among_quiet was.node.leaves (get_or ns i nothing).leaves (under (drop (suc i) ns)) was.some
      (all_get _ ns i nothing there are).whole.some at.inside
      (λ some. ap (λ e. are_few (extent_last (get_or ns i nothing).leaves).count e.count)
      (first_rest 0 ns i 0 there height are (some_after some)) ∙ at.right (some_after some))
      (under (take i ns))
      (λ some. ap (λ e. are_few e.count (extent_first (get_or ns i nothing).leaves).count)
      (last_taken height ns i (some_before some) (omega (arith, there)) are) ∙ at.left (some_before some))
      (ap (λ (leaves : List LeafView). is_quiet (summary_of leaves)) (sym (under_set ns i was.node there))
      ∙ ap is_quiet (sym was.is) ∙ quiet)
