-- A leaf put below one of some nodes.
use Rattle.std.proofs.Common.{◌≡◌, ℕ, zero, suc, ◌+◌, ◌<◌, ◌≤◌, List, [], ◌∷◌, ◌++◌, length, get_or, set, take, drop, sym, ap, ◌∙◌, arith, append_assoc, append-nil}
use Rattle.std.specs.List.{insert}
use Rattle.std.proofs.lemmas.List.Edits.{length-insert}
use Rattle.dc_leaf.specs.Leaf.{LeafView}
use Rattle.dc_tree.specs.Nodes.{TreeNodeView, nothing, under}
use Rattle.dc_tree.specs.Finding.{IsIn}
use Rattle.dc_tree.proofs.AtPlace.{under_set, inserted_in, place_there}
use Rattle.dc_tree.proofs.Under.{count_inserted}

-- one node in two
under_two : (ns : List TreeNodeView) (i : ℕ) (n m : TreeNodeView) → i < length ns
    → under (insert (set ns i n) (suc i) m) ≡ under (take i ns) ++ ((n.leaves ++ m.leaves) ++ under (drop (suc i) ns))
under_two [] i n m within = absurd (omega (arith, within))
under_two (k ∷ ns) zero n m within = sym (append_assoc n.leaves m.leaves (under ns))
under_two (k ∷ ns) (suc i) n m within =
    ap (λ (more : List LeafView). k.leaves ++ more) (under_two ns i n m (omega (arith, within)))
    ∙ sym (append_assoc k.leaves (under (take i ns)) ((n.leaves ++ m.leaves) ++ under (drop (suc i) ns)))

module _ (ns : List TreeNodeView) (place i rest : ℕ) (at : IsIn ns place i rest) (x : LeafView) where
  pub inserted_one : (n : TreeNodeView) → n.leaves ++ [] ≡ insert (get_or ns i nothing).leaves (suc rest) x
      → under (set ns i n) ++ [] ≡ insert (under ns) (suc place) x
  inserted_one n is =
      append-nil (under (set ns i n))
      ∙ under_set ns i n at.there
      ∙ ap (λ (leaves : List LeafView). under (take i ns) ++ (leaves ++ under (drop (suc i) ns)))
      (sym (append-nil n.leaves) ∙ is)
      ∙ sym (inserted_in ns place i rest at x)

  pub inserted_two : (n m : TreeNodeView) → n.leaves ++ (m.leaves ++ []) ≡ insert (get_or ns i nothing).leaves (suc rest) x
      → under (insert (set ns i n) (suc i) m) ≡ insert (under ns) (suc place) x
  inserted_two n m is =
      under_two ns i n m at.there
      ∙ ap (λ (leaves : List LeafView). under (take i ns) ++ (leaves ++ under (drop (suc i) ns)))
      (ap (λ (leaves : List LeafView). n.leaves ++ leaves) (sym (append-nil m.leaves)) ∙ is)
      ∙ sym (inserted_in ns place i rest at x)

  pub count_two : (n m : TreeNodeView) → n.leaves ++ (m.leaves ++ []) ≡ insert (get_or ns i nothing).leaves (suc rest) x
      → length (under (set ns i n)) + length m.leaves ≡ length (under ns) + 1
  count_two n m is =
      sym (count_inserted (set ns i n) (suc i) m)
      ∙ ap length (inserted_two n m is)
      ∙ length-insert (under ns) (suc place) x (omega (arith, place_there ns place i rest at))

-- two nodes put in
pub under_pair : (ns : List TreeNodeView) (i : ℕ) (n m : TreeNodeView) → i ≤ length ns
    → under (insert (insert ns i n) (suc i) m) ≡ under (take i ns) ++ ((n.leaves ++ m.leaves) ++ under (drop i ns))
under_pair [] zero n m within = sym (append_assoc n.leaves m.leaves [])
under_pair [] (suc i) n m within = absurd (omega (arith, within))
under_pair (k ∷ ns) zero n m within = sym (append_assoc n.leaves m.leaves (under (k ∷ ns)))
under_pair (k ∷ ns) (suc i) n m within =
    ap (λ (more : List LeafView). k.leaves ++ more) (under_pair ns i n m (omega (arith, within)))
    ∙ sym (append_assoc k.leaves (under (take i ns)) ((n.leaves ++ m.leaves) ++ under (drop i ns)))
