-- A node whose leaves are raised.
use Rattle.std.proofs.Common.{◌≡◌, ℕ, suc, ◌<◌, ◌≤◌, List, [], ◌∷◌, ◌++◌, length, map, Option, Box, Vec, vec_capacity, refl, sym, ap, ◌∙◌, subst}
use Rattle.std.specs.declared.alloc.Global.{Global}
use Rattle.std.proofs.lemmas.List.{length-map}
use Rattle.record_key.specs.Table.{Bytes}
use Rattle.dc_leaf.specs.Leaf.{LeafView, raised_to}
use Rattle.dc_tree.specs.Choosing.{summary_of}
use Rattle.dc_tree.specs.Nodes.{TreeNodeView, under, height_in, over_nodes, low_of, IsWhole, AreChildren, raised_node}
use Rattle.dc_tree.specs.declared.tree.node.Below.{Below}
use Rattle.dc_tree.specs.declared.tree.node.Below.TheVariants.{Leaf, Inner}
use Rattle.dc_tree.specs.declared.tree.summary.Summary.{Summary}
use Rattle.dc_tree.specs.Below.{seen, IsNode}

module _ (l : ℕ) where
  abbrev raise : LeafView → LeafView
  raise leaf = raised_to leaf l

  raised_append : (xs ys : List LeafView) → map raise (xs ++ ys) ≡ map raise xs ++ map raise ys
  raised_append [] ys = refl
  raised_append (x ∷ xs) ys = ap (λ (rest : List LeafView). raise x ∷ rest) (raised_append xs ys)

  under_raised : (ns : List TreeNodeView) → under (map (raised_node l) ns) ≡ map raise (under ns)
  under_raised [] = refl
  under_raised (n ∷ ns) = ap (λ (rest : List LeafView). map raise n.leaves ++ rest) (under_raised ns)
      ∙ sym (raised_append n.leaves (under ns))

  height_raised : (ns : List TreeNodeView) → height_in (map (raised_node l) ns) ≡ height_in ns
  height_raised [] = refl
  height_raised (n ∷ ns) = refl

  low_raised : (leaves : List LeafView) → low_of (map raise leaves) ≡ low_of leaves
  low_raised [] = refl
  low_raised (leaf ∷ leaves) = refl

  pub whole_raised : (n : TreeNodeView) → IsWhole n → IsWhole (raised_node l n)
  whole_raised n whole =
      let many : length (map raise n.leaves) ≡ length n.leaves = length-map n.leaves raise in
      record {
        some = subst (λ (k : ℕ). 0 < k) (sym many) whole.some;
        one = λ level. many ∙ whole.one level;
        two = whole.two;
        eight = whole.eight;
      }

  children_raised : (height : ℕ) (ns : List TreeNodeView) → AreChildren height ns
      → AreChildren height (map (raised_node l) ns)
  children_raised height [] are = tt
  children_raised height (n ∷ ns) are =
      (record { level = are.0.level; whole = whole_raised n are.0.whole }, children_raised height ns are.1)

  pub nodes_raised : (ns : List TreeNodeView) → over_nodes (map (raised_node l) ns) ≡ raised_node l (over_nodes ns)
  nodes_raised ns = λ i. record {
    leaves = under_raised ns i;
    height = suc (height_raised ns i);
    kids = length-map ns (raised_node l) i;
  }

-- what a raise leaves
pub record IsRaised (l : ℕ) (low : Option Bytes) (count : ℕ) (summary : Summary) (old new : Below) : Type 0 where
  pub kept : IsNode low count summary new
  pub raised : seen new ≡ raised_node l (seen old)

pub leaf_raised : (l : ℕ) (low : Option Bytes) (count : ℕ) (summary again : Summary) (old new : Box LeafView Global)
    → IsNode low count summary (Leaf old)
    → new.value ≡ raised_to old.value l → again ≡ summary_of (new.value ∷ [])
    → IsRaised l low count again (Leaf old) (Leaf new)
leaf_raised l low count summary again old new kept is summed = record {
  kept = record {
    begins = kept.begins ∙ sym (ap (λ (leaf : LeafView). leaf.low_fence) is);
    counted = kept.counted;
    fits = kept.fits;
    summed = summed;
    under_it = tt;
  };
  raised = ap (λ (leaf : LeafView). record { leaves = leaf ∷ []; height = 0; kids = 0 }) is;
}

pub inner_raised : (l : ℕ) (low : Option Bytes) (count : ℕ) (summary again : Summary) (xs ys : Vec TreeNodeView Global)
    → IsNode low count summary (Inner xs)
    → ys.items ≡ map (raised_node l) xs.items → vec_capacity ys ≡ vec_capacity xs → again ≡ summary_of (under ys.items)
    → IsRaised l low count again (Inner xs) (Inner ys)
inner_raised l low count summary again xs ys kept items room summed =
    let raised : over_nodes ys.items ≡ raised_node l (over_nodes xs.items) =
    ap over_nodes items ∙ nodes_raised l xs.items in
    let leaves : under ys.items ≡ map (λ leaf. raised_to leaf l) (under xs.items) =
    ap (λ (n : TreeNodeView). n.leaves) raised in
    let many : length ys.items ≡ length xs.items = ap (λ (n : TreeNodeView). n.kids) raised in
    let height : height_in ys.items ≡ height_in xs.items = ap height_in items ∙ height_raised l xs.items in
    record {
      kept = record {
        begins = kept.begins ∙ sym (ap low_of leaves ∙ low_raised l (under xs.items));
        counted = kept.counted ∙ sym (ap length leaves ∙ length-map (under xs.items) (λ leaf. raised_to leaf l));
        fits = kept.fits;
        summed = summed;
        under_it = record {
          children =
              subst (λ (h : ℕ). AreChildren h ys.items) (sym height)
              (subst (λ (ns : List TreeNodeView). AreChildren (height_in xs.items) ns) (sym items)
              (children_raised l (height_in xs.items) xs.items kept.under_it.children));
          most = subst (λ (k : ℕ). k ≤ 8) (sym many) kept.under_it.most;
          room = λ some. subst (λ (k : ℕ). 8 < k) (sym room) (kept.under_it.room (subst (λ (k : ℕ). 0 < k) many some));
        };
      };
      raised = raised;
    }
