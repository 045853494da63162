-- A node below which one leaf is changed.
use Rattle.std.proofs.Common.{◌≡◌, ℕ, zero, suc, ◌<◌, ◌≤◌, List, [], ◌∷◌, ◌++◌, length, get_or, set, take, drop, Option, Vec, vec_capacity, refl, sym, ap, ◌∙◌, subst, arith}
use Rattle.std.specs.declared.alloc.Global.{Global}
use Rattle.std.proofs.lemmas.List.{length-set, get_or-set_same, get_or_default}
use Rattle.record_key.specs.Table.{Bytes}
use Rattle.dc_leaf.specs.Leaf.{LeafView, first}
use Rattle.dc_tree.specs.Choosing.{summary_of}
use Rattle.dc_tree.specs.Nodes.{TreeNodeView, nothing, under, height_in, over_nodes, low_of, IsWhole, IsChild, AreChildren, IsChangedAt}
use Rattle.dc_tree.specs.Finding.{IsIn}
use Rattle.dc_tree.specs.declared.tree.node.Below.{Below}
use Rattle.dc_tree.specs.declared.tree.node.Below.TheVariants.{Inner}
use Rattle.dc_tree.specs.declared.tree.summary.Summary.{Summary}
use Rattle.dc_tree.specs.Below.{seen, IsNode}
use Rattle.dc_tree.proofs.AtPlace.{under_set, leaf_in, set_in}
use Rattle.dc_tree.proofs.Under.{count_parts}
use Rattle.dc_tree.proofs.Whole.{all_get, all_set, at_first}

pub low_set : (leaves : List LeafView) (p : ℕ) (x : LeafView) → x.low_fence ≡ (get_or leaves p first).low_fence
    → low_of (set leaves p x) ≡ low_of leaves
low_set [] p x begins = refl
low_set (leaf ∷ leaves) zero x begins = begins
low_set (leaf ∷ leaves) (suc p) x begins = refl

module _ (place : ℕ) (old new : TreeNodeView) (change : IsChangedAt place old new) where
  pub same_count : length new.leaves ≡ length old.leaves
  same_count = ap length change.leaves ∙ length-set old.leaves place (get_or new.leaves place first)

  pub same_low : low_of new.leaves ≡ low_of old.leaves
  same_low = ap low_of change.leaves ∙ low_set old.leaves place (get_or new.leaves place first) change.begins

  pub still_whole : IsWhole old → IsWhole new
  still_whole whole = record {
    some = omega (arith, same_count, whole.some);
    one = λ level. same_count ∙ whole.one (sym change.height ∙ level);
    two = λ inner. subst (λ (k : ℕ). 2 ≤ k) (sym change.kids)
        (whole.two (subst (λ (h : ℕ). 0 < h) change.height inner));
    eight = subst (λ (k : ℕ). k ≤ 8) (sym change.kids) whole.eight;
  }

  pub still_child : (height : ℕ) → IsChild height old → IsChild height new
  still_child height child = record { level = change.height ∙ child.level; whole = still_whole child.whole }

-- what a change at a place leaves
pub record IsChanged (place : ℕ) (low : Option Bytes) (count : ℕ) (summary : Summary) (old new : Below) (x : LeafView) :
    Type 0 where
  pub kept : IsNode low count summary new
  pub changed : IsChangedAt place (seen old) (seen new)
  pub leaf : get_or (seen new).leaves place first ≡ x

same_height : (ns : List TreeNodeView) (i : ℕ) (n : TreeNodeView) → n.height ≡ (get_or ns i nothing).height
    → height_in (set ns i n) ≡ height_in ns
same_height [] i n same = refl
same_height (m ∷ ns) zero n same = same
same_height (m ∷ ns) (suc i) n same = refl

module _ (place i rest : ℕ) (ns : List TreeNodeView) (n : TreeNodeView) (at : IsIn ns place i rest)
    (change : IsChangedAt rest (get_or ns i nothing) n) where
  abbrev x : LeafView
  x = get_or n.leaves rest first

  set_under : under (set ns i n) ≡ set (under ns) place x
  set_under =
      under_set ns i n at.there
      ∙ ap (λ (leaves : List LeafView). under (take i ns) ++ (leaves ++ under (drop (suc i) ns))) change.leaves
      ∙ sym (set_in ns place i rest at x)

  pub there : place < length (under ns)
  there = Rattle.dc_tree.proofs.AtPlace.place_there ns place i rest at

  leaf_under : get_or (under (set ns i n)) place first ≡ x
  leaf_under = ap (λ (leaves : List LeafView). get_or leaves place first) set_under
      ∙ get_or-set_same (under ns) place x first there

  nodes_changed : IsChangedAt place (over_nodes ns) (over_nodes (set ns i n))
  nodes_changed = record {
    leaves = set_under ∙ ap (λ (y : LeafView). set (under ns) place y) (sym leaf_under);
    height = ap suc (same_height ns i n change.height);
    kids = length-set ns i n;
    begins = ap (λ (leaf : LeafView). leaf.low_fence) leaf_under ∙ change.begins
        ∙ ap (λ (leaf : LeafView). leaf.low_fence) (sym (leaf_in ns place i rest at));
  }

-- ---- what a change leaves where there are nodes below

pub inner_changed : (place i rest : ℕ) (low : Option Bytes) (count : ℕ) (summary again : Summary)
    (xs ys : Vec TreeNodeView Global) (child n : TreeNodeView)
    → IsNode low count summary (Inner xs) → IsIn xs.items place i rest → child ≡ get_or xs.items i child
    → IsChangedAt rest child n → ys.items ≡ set xs.items i n
    → vec_capacity ys ≡ vec_capacity xs → again ≡ summary_of (under ys.items)
    → IsChanged place low count again (Inner xs) (Inner ys) (get_or n.leaves rest first)
inner_changed place i rest low count summary again xs ys child n kept at of by items room summed =
    let there : child ≡ get_or xs.items i nothing = of ∙ get_or_default xs.items i child nothing at.there in
    let change : IsChangedAt rest (get_or xs.items i nothing) n =
    subst (λ (m : TreeNodeView). IsChangedAt rest m n) there by in
    let changed : IsChangedAt place (over_nodes xs.items) (over_nodes ys.items) =
    subst (λ (ms : List TreeNodeView). IsChangedAt place (over_nodes xs.items) (over_nodes ms)) (sym items)
    (nodes_changed place i rest xs.items n at change) in
    let same : IsChild (height_in xs.items) n =
    still_child rest (get_or xs.items i nothing) n change (height_in xs.items)
    (all_get (IsChild (height_in xs.items)) xs.items i nothing at.there kept.under_it.children) in
    let many : length ys.items ≡ length xs.items = ap length items ∙ length-set xs.items i n in
    record {
      kept = record {
        begins = kept.begins ∙ sym (same_low place _ _ changed);
        counted = kept.counted ∙ sym (same_count place _ _ changed);
        fits = kept.fits;
        summed = summed;
        under_it = record {
          children = subst (λ (ms : List TreeNodeView). AreChildren (height_in ms) ms) (sym items)
              (at_first (height_in xs.items) (set xs.items i n)
              (all_set (IsChild (height_in xs.items)) xs.items i n same kept.under_it.children));
          most = subst (λ (k : ℕ). k ≤ 8) (sym many) kept.under_it.most;
          room = λ some. subst (λ (k : ℕ). 8 < k) (sym room) (kept.under_it.room (subst (λ (k : ℕ). 0 < k) many some));
        };
      };
      changed = changed;
      leaf = ap (λ (ms : List TreeNodeView). get_or (under ms) place first) items
          ∙ leaf_under place i rest xs.items n at change;
    }

-- ---- one level down

-- the same leaf, at a place in a child
pub record IsBelowAt (self : TreeNodeView) (place : ℕ) (child : TreeNodeView) (rest : ℕ) : Type 0 where
  pub lower : child.height < self.height
  pub whole : IsWhole child
  pub within : rest < length child.leaves
  pub fewer : length child.leaves ≤ length self.leaves
  pub leaf : get_or self.leaves place first ≡ get_or child.leaves rest first

pub goes_down : (self child : TreeNodeView) (place i rest : ℕ) (low : Option Bytes) (count : ℕ) (summary : Summary)
    (xs : Vec TreeNodeView Global)
    → seen (Inner xs) ≡ self
    → IsNode low count summary (Inner xs) → IsIn xs.items place i rest → child ≡ get_or xs.items i child
    → IsBelowAt self place child rest
goes_down self child place i rest low count summary xs is kept at of =
    let there : get_or xs.items i nothing ≡ child = sym (of ∙ get_or_default xs.items i child nothing at.there) in
    let one : IsChild (height_in xs.items) child =
    subst (IsChild (height_in xs.items)) there
    (all_get (IsChild (height_in xs.items)) xs.items i nothing at.there kept.under_it.children) in
    record {
      lower = omega (arith, one.level, ap (λ (n : TreeNodeView). n.height) is);
      whole = one.whole;
      within = subst (λ (n : TreeNodeView). rest < length n.leaves) there at.within;
      fewer = omega (
        arith,
        count_parts xs.items i nothing at.there,
        ap (λ (n : TreeNodeView). length n.leaves) there,
        ap (λ (n : TreeNodeView). length n.leaves) is,
      );
      leaf =
          ap (λ (n : TreeNodeView). get_or n.leaves place first) (sym is)
          ∙ leaf_in xs.items place i rest at
          ∙ ap (λ (n : TreeNodeView). get_or n.leaves rest first) there;
    }
