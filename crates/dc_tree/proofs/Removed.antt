-- Nodes of which one is taken out, or stands there again with other leaves.
use Rattle.std.proofs.Common.{◌≡◌, ℕ, suc, ◌+◌, ◌<◌, ◌≤◌, List, [], ◌++◌, length, get_or, take, drop, sym, ap, ◌∙◌, arith, append_assoc, length-append}
use Rattle.std.specs.List.{insert, remove}
use Rattle.std.proofs.lemmas.List.{get_or_default}
use Rattle.std.proofs.lemmas.List.Edits.{length-remove}
use Rattle.dc_leaf.specs.Leaf.{LeafView}
use Rattle.dc_tree.specs.Nodes.{TreeNodeView, nothing, under, height_in, over_nodes, AreChildren, IsReduced}
use Rattle.dc_tree.specs.Finding.{IsIn}
use Rattle.dc_tree.proofs.AtPlace.{removed_in}
use Rattle.dc_tree.proofs.Taken.{take_removed, drop_removed, drop_past, none_left}
use Rattle.dc_tree.proofs.Whole.{height_of, some_under}
use Rattle.dc_tree.proofs.Under.{under_more, under_inserted, under_removed, count_parts}

pub count_removed : (ns : List TreeNodeView) (i : ℕ) (d : TreeNodeView) → i < length ns
    → length (under (remove ns i)) + length (get_or ns i d).leaves ≡ length (under ns)
count_removed ns i d within =
    omega (
      arith,
      ap length (under_removed ns i),
      length-append (under (take i ns)) (under (drop (suc i) ns)),
      count_parts ns i d within,
    )

module _ (ns : List TreeNodeView) (i : ℕ) (within : i < length ns) (n : TreeNodeView) where
  -- joined with the node that stood there, before it or after it
  pub joined_after : (right : TreeNodeView) → right ≡ get_or ns i right
      → under (take i (remove ns i)) ++ ((n.leaves ++ right.leaves) ++ under (drop i (remove ns i)))
      ≡ under (insert ns i n)
  joined_after right is =
      let rest : List LeafView = under (drop i (remove ns i)) in
      let there : right.leaves ++ rest ≡ under (drop i ns) =
      ap (λ (m : TreeNodeView). m.leaves ++ rest) is ∙ sym (ap under (drop_removed ns i right within)) in
      (λ j. under (take_removed ns i j) ++ append_assoc n.leaves right.leaves rest j)
      ∙ ap (λ (leaves : List LeafView). under (take i ns) ++ (n.leaves ++ leaves)) there
      ∙ sym (under_inserted ns i n)

  pub joined_before : (left : TreeNodeView) → left ≡ get_or ns i left
      → under (take i (remove ns i)) ++ ((left.leaves ++ n.leaves) ++ under (drop i (remove ns i)))
      ≡ under (insert ns (suc i) n)
  joined_before left is =
      let rest : List LeafView = under (drop (suc i) ns) in
      let first : under (take (suc i) ns) ≡ under (take i ns) ++ left.leaves =
      under_more ns i left within ∙ ap (λ (m : TreeNodeView). under (take i ns) ++ m.leaves) (sym is) in
      (λ j. under (take_removed ns i j) ++ append_assoc left.leaves n.leaves (under (drop_past ns i within j)) j)
      ∙ sym (append_assoc (under (take i ns)) left.leaves (n.leaves ++ rest))
      ∙ ap (λ (leaves : List LeafView). leaves ++ (n.leaves ++ rest)) (sym first)
      ∙ sym (under_inserted ns (suc i) n)

  pub put_again : under (insert (remove ns i) i n) ≡ under (take i ns) ++ (n.leaves ++ under (drop (suc i) ns))
  put_again =
      under_inserted (remove ns i) i n
      ∙ (λ j. under (take_removed ns i j) ++ (n.leaves ++ under (drop_past ns i within j)))

module _ (ns : List TreeNodeView) (place i rest : ℕ) (at : IsIn ns place i rest) (child : TreeNodeView)
    (is : child ≡ get_or ns i child) where
  there : child.leaves ≡ (get_or ns i nothing).leaves
  there = ap (λ (m : TreeNodeView). m.leaves) (is ∙ get_or_default ns i child nothing at.there)

  -- a leaf taken out of a node that has others
  pub without_leaf : (n : TreeNodeView) → n.leaves ≡ remove child.leaves rest
      → under (insert (remove ns i) i n) ≡ remove (under ns) place
  without_leaf n left =
      put_again ns i at.there n
      ∙ ap (λ (leaves : List LeafView). under (take i ns) ++ (leaves ++ under (drop (suc i) ns)))
      (left ∙ ap (λ (leaves : List LeafView). remove leaves rest) there)
      ∙ sym (removed_in ns place i rest at)

  -- and a node taken out with the only leaf that it has
  pub without_node : length child.leaves ≡ 1 → under (remove ns i) ≡ remove (under ns) place
  without_node one =
      let gone : remove (get_or ns i nothing).leaves rest ≡ [] =
      none_left (get_or ns i nothing).leaves rest (ap length (sym there) ∙ one) at.within in
      under_removed ns i
      ∙ ap (λ (leaves : List LeafView). under (take i ns) ++ (leaves ++ under (drop (suc i) ns))) (sym gone)
      ∙ sym (removed_in ns place i rest at)

  pub count_reduced : (n : TreeNodeView) → n.leaves ≡ remove child.leaves rest
      → length (under (remove ns i)) + length n.leaves + 1 ≡ length (under ns)
  count_reduced n left =
      omega (
        arith,
        count_removed ns i child at.there,
        ap (λ (m : TreeNodeView). length m.leaves) is,
        ap length left,
        ap length there,
        at.within,
        length-remove child.leaves rest (omega (arith, ap length there, at.within)),
      )

-- the nodes that are left where a leaf below them went
pub record AreReduced (old : List TreeNodeView) (place : ℕ) (new : List TreeNodeView) : Type 0 where
  pub leaves : under new ≡ remove (under old) place
  pub children : AreChildren (height_in old) new
  pub some : 0 < length new
  pub most : length new ≤ 8

pub reduced_over : (old : List TreeNodeView) (place : ℕ) (new : List TreeNodeView) → AreReduced old place new
    → IsReduced (suc (height_in old)) (over_nodes new)
reduced_over old place new left = record {
  level = ap suc (height_of (height_in old) new left.some left.children);
  inner = omega arith;
  some = some_under (height_in old) new left.some left.children;
  one = left.some;
  eight = left.most;
}

pub count_fewer : (old : List TreeNodeView) (place : ℕ) (new : List TreeNodeView) → AreReduced old place new
    → place < length (under old) → length (under new) + 1 ≡ length (under old)
count_fewer old place new left within = omega (arith, ap length left.leaves, length-remove (under old) place within)
