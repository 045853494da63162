-- The leaves below nodes that stand one after another.
use Rattle.std.proofs.Common.{◌≡◌, ℕ, zero, suc, ◌+◌, ◌-◌, ◌<◌, ◌≤◌, List, [], ◌∷◌, ◌++◌, length, get_or, take, drop, refl, sym, ap, ◌∙◌, arith, append_assoc, append-nil, length-append}
use Rattle.std.specs.List.{insert, remove}
use Rattle.std.proofs.lemmas.List.{take-append-drop}
use Rattle.dc_leaf.specs.Leaf.{LeafView}
use Rattle.dc_tree.specs.Nodes.{TreeNodeView, under}

pub under_append : (ns ms : List TreeNodeView) → under (ns ++ ms) ≡ under ns ++ under ms
under_append [] ms = refl
under_append (n ∷ ns) ms =
    ap (λ (more : List LeafView). n.leaves ++ more) (under_append ns ms)
    ∙ sym (append_assoc n.leaves (under ns) (under ms))

-- one node more
pub under_more : (ns : List TreeNodeView) (i : ℕ) (d : TreeNodeView) → i < length ns
    → under (take (suc i) ns) ≡ under (take i ns) ++ (get_or ns i d).leaves
under_more [] i d within = absurd (omega (arith, within))
under_more (n ∷ ns) zero d within = append-nil n.leaves
under_more (n ∷ ns) (suc i) d within =
    ap (λ (more : List LeafView). n.leaves ++ more) (under_more ns i d (omega (arith, within)))
    ∙ sym (append_assoc n.leaves (under (take i ns)) (get_or ns i d).leaves)

-- those before a node, its own and those after it
pub under_parts : (ns : List TreeNodeView) (i : ℕ) (d : TreeNodeView) → i < length ns
    → under ns ≡ under (take i ns) ++ ((get_or ns i d).leaves ++ under (drop (suc i) ns))
under_parts [] i d within = absurd (omega (arith, within))
under_parts (n ∷ ns) zero d within = refl
under_parts (n ∷ ns) (suc i) d within =
    ap (λ (more : List LeafView). n.leaves ++ more) (under_parts ns i d (omega (arith, within)))
    ∙ sym (append_assoc n.leaves (under (take i ns)) ((get_or ns i d).leaves ++ under (drop (suc i) ns)))

pub count_more : (ns : List TreeNodeView) (i : ℕ) (d : TreeNodeView) → i < length ns
    → length (under (take (suc i) ns)) ≡ length (under (take i ns)) + length (get_or ns i d).leaves
count_more ns i d within =
    ap length (under_more ns i d within) ∙ length-append (under (take i ns)) (get_or ns i d).leaves

pub count_parts : (ns : List TreeNodeView) (i : ℕ) (d : TreeNodeView) → i < length ns
    → length (under ns) ≡ length (under (take i ns))
    + (length (get_or ns i d).leaves + length (under (drop (suc i) ns)))
count_parts ns i d within =
    ap length (under_parts ns i d within)
    ∙ length-append (under (take i ns)) ((get_or ns i d).leaves ++ under (drop (suc i) ns))
    ∙ ap (λ (n : ℕ). length (under (take i ns)) + n) (length-append (get_or ns i d).leaves (under (drop (suc i) ns)))

pub some_nodes : (ns : List TreeNodeView) → 0 < length (under ns) → 0 < length ns
some_nodes [] some = absurd (omega (arith, some))
some_nodes (n ∷ ns) some = omega arith

-- a place that lies past a node lies in a later one
pub lies_later : (ns : List TreeNodeView) (i place : ℕ) (d : TreeNodeView) → i < length ns → place < length (under ns)
    → length (under (take i ns)) + length (get_or ns i d).leaves ≤ place → suc i < length ns
lies_later [] i place d there within past = absurd (omega (arith, there))
lies_later (n ∷ []) zero place d there within past = absurd (omega (arith, within, past, length-append n.leaves []))
lies_later (n ∷ []) (suc i) place d there within past = absurd (omega (arith, there))
lies_later (n ∷ m ∷ ns) zero place d there within past = omega arith
lies_later (n ∷ m ∷ ns) (suc i) place d there within past =
    let next : suc i < length (m ∷ ns) = lies_later (m ∷ ns) i (place - length n.leaves) d (omega (arith, there))
    (omega (
      arith,
      within,
      past,
      length-append n.leaves (under (m ∷ ns)),
      length-append n.leaves (under (take i (m ∷ ns))),
    ))
    (omega (arith, past, length-append n.leaves (under (take i (m ∷ ns))))) in
    omega (arith, next)

pub under_halves : (ns : List TreeNodeView) (i : ℕ) → under ns ≡ under (take i ns) ++ under (drop i ns)
under_halves ns i = ap under (sym (take-append-drop i ns)) ∙ under_append (take i ns) (drop i ns)

pub count_halves : (ns : List TreeNodeView) (i : ℕ)
    → length (under ns) ≡ length (under (take i ns)) + length (under (drop i ns))
count_halves ns i = ap length (under_halves ns i) ∙ length-append (under (take i ns)) (under (drop i ns))

pub under_inserted : (ns : List TreeNodeView) (i : ℕ) (n : TreeNodeView)
    → under (insert ns i n) ≡ under (take i ns) ++ (n.leaves ++ under (drop i ns))
under_inserted ns i n = under_append (take i ns) (n ∷ drop i ns)

pub count_inserted : (ns : List TreeNodeView) (i : ℕ) (n : TreeNodeView)
    → length (under (insert ns i n)) ≡ length (under ns) + length n.leaves
count_inserted ns i n =
    omega (
      arith,
      ap length (under_inserted ns i n),
      length-append (under (take i ns)) (n.leaves ++ under (drop i ns)),
      length-append n.leaves (under (drop i ns)),
      count_halves ns i,
    )

pub under_removed : (ns : List TreeNodeView) (i : ℕ) → under (remove ns i) ≡ under (take i ns) ++ under (drop (suc i) ns)
under_removed ns i = under_append (take i ns) (drop (suc i) ns)
