-- A place among the leaves below nodes, in the node that has it.
use Rattle.std.proofs.Common.{◌≡◌, ℕ, zero, suc, ◌-◌, ◌<◌, ◌≤◌, List, [], ◌∷◌, ◌++◌, length, get_or, set, take, drop, refl, sym, ap, ◌∙◌, arith}
use Rattle.std.specs.List.{insert, remove}
use Rattle.std.proofs.lemmas.List.{get_or-append-add, get_or_append_left, set-append_left, set-append_right}
use Rattle.std.proofs.lemmas.List.Edits.{insert-append_left, insert-append_right, remove-append_left, remove-append_right}
use Rattle.dc_leaf.specs.Leaf.{LeafView, first}
use Rattle.dc_tree.specs.Nodes.{TreeNodeView, nothing, under}
use Rattle.dc_tree.specs.Finding.{IsIn}
use Rattle.dc_tree.proofs.Under.{under_parts}

-- nodes of which one is another
pub under_set : (ns : List TreeNodeView) (i : ℕ) (n : TreeNodeView) → i < length ns
    → under (set ns i n) ≡ under (take i ns) ++ (n.leaves ++ under (drop (suc i) ns))
under_set [] i n within = absurd (omega (arith, within))
under_set (m ∷ ns) zero n within = refl
under_set (m ∷ ns) (suc i) n within =
    ap (λ (more : List LeafView). m.leaves ++ more) (under_set ns i n (omega (arith, within)))
    ∙ sym (Rattle.std.proofs.Common.append_assoc m.leaves (under (take i ns)) (n.leaves ++ under (drop (suc i) ns)))

module _ (ns : List TreeNodeView) (place i rest : ℕ) (at : IsIn ns place i rest) where
  abbrev before : List LeafView
  before = under (take i ns)

  abbrev inside : List LeafView
  inside = (get_or ns i nothing).leaves

  abbrev after : List LeafView
  after = under (drop (suc i) ns)

  parts : under ns ≡ before ++ (inside ++ after)
  parts = under_parts ns i nothing at.there

  past : length before ≤ place
  past = omega (arith, at.is)

  left : place - length before ≡ rest
  left = omega (arith, at.is)

  pub leaf_in : get_or (under ns) place first ≡ get_or inside rest first
  leaf_in =
      ap (λ (leaves : List LeafView). get_or leaves place first) parts
      ∙ ap (λ (p : ℕ). get_or (before ++ (inside ++ after)) p first) at.is
      ∙ get_or-append-add before (inside ++ after) rest first
      ∙ get_or_append_left inside after first rest at.within

  pub set_in : (x : LeafView) → set (under ns) place x ≡ before ++ (set inside rest x ++ after)
  set_in x =
      ap (λ (leaves : List LeafView). set leaves place x) parts
      ∙ set-append_right before (inside ++ after) (length before) place x refl past
      ∙ ap (λ (p : ℕ). before ++ set (inside ++ after) p x) left
      ∙ ap (λ (leaves : List LeafView). before ++ leaves) (set-append_left inside after rest x at.within)

  pub removed_in : remove (under ns) place ≡ before ++ (remove inside rest ++ after)
  removed_in =
      ap (λ (leaves : List LeafView). remove leaves place) parts
      ∙ remove-append_right before (inside ++ after) (length before) place refl past
      ∙ ap (λ (p : ℕ). before ++ remove (inside ++ after) p) left
      ∙ ap (λ (leaves : List LeafView). before ++ leaves) (remove-append_left inside after rest at.within)

  pub inserted_in : (x : LeafView) → insert (under ns) (suc place) x ≡ before ++ (insert inside (suc rest) x ++ after)
  inserted_in x =
      let later : suc place - length before ≡ suc rest = omega (arith, at.is) in
      ap (λ (leaves : List LeafView). insert leaves (suc place) x) parts
      ∙ insert-append_right before (inside ++ after) (length before) (suc place) x refl (omega (arith, past))
      ∙ ap (λ (p : ℕ). before ++ insert (inside ++ after) p x) later
      ∙ ap (λ (leaves : List LeafView). before ++ leaves)
      (insert-append_left inside after (suc rest) x (omega (arith, at.within)))

  pub place_there : place < length (under ns)
  place_there =
      omega (
        arith,
        at.is,
        at.within,
        ap length parts,
        Rattle.std.proofs.Common.length-append before (inside ++ after),
        Rattle.std.proofs.Common.length-append inside after,
      )
