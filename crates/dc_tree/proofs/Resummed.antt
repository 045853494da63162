-- What is kept of leaves stays where some of them are changed and what is kept of these stays.
use Rattle.std.proofs.Common.{◌≡◌, ℕ, suc, ◌<◌, List, [], ◌∷◌, ◌++◌, length, get_or, set, take, drop, sym, ap, ◌∙◌, arith, append-nil}
use Rattle.dc_leaf.specs.Leaf.{LeafView}
use Rattle.dc_tree.specs.Choosing.{summary_of, both_of}
use Rattle.dc_tree.specs.Nodes.{TreeNodeView, nothing, under}
use Rattle.dc_tree.specs.declared.tree.summary.Summary.{Summary}
use Rattle.dc_tree.proofs.AtPlace.{under_set}
use Rattle.dc_tree.proofs.Summed.{summary_append}
use Rattle.dc_tree.proofs.Under.{under_parts}

before_others : (a b back : List LeafView) → 0 < length a → 0 < length b → summary_of a ≡ summary_of b
    → summary_of (a ++ back) ≡ summary_of (b ++ back)
before_others a b [] some more same = ap summary_of (append-nil a) ∙ same ∙ sym (ap summary_of (append-nil b))
before_others a b (y ∷ ys) some more same =
    summary_append a (y ∷ ys) some (omega arith)
    ∙ ap (λ (s : Summary). both_of s (summary_of (y ∷ ys))) same
    ∙ sym (summary_append b (y ∷ ys) more (omega arith))

longer : (a back : List LeafView) → 0 < length a → 0 < length (a ++ back)
longer [] back some = absurd (omega (arith, some))
longer (x ∷ xs) back some = omega arith

among_others : (front a b back : List LeafView) → 0 < length a → 0 < length b → summary_of a ≡ summary_of b
    → summary_of (front ++ (a ++ back)) ≡ summary_of (front ++ (b ++ back))
among_others [] a b back some more same = before_others a b back some more same
among_others (x ∷ xs) a b back some more same =
    summary_append (x ∷ xs) (a ++ back) (omega arith) (longer a back some)
    ∙ ap (λ (s : Summary). both_of (summary_of (x ∷ xs)) s) (before_others a b back some more same)
    ∙ sym (summary_append (x ∷ xs) (b ++ back) (omega arith) (longer b back more))

-- nodes of which one is another whose leaves have the same summary
pub resummed : (ns : List TreeNodeView) (i : ℕ) (n : TreeNodeView) → i < length ns → 0 < length (get_or ns i nothing).leaves
    → 0 < length n.leaves → summary_of n.leaves ≡ summary_of (get_or ns i nothing).leaves
    → summary_of (under (set ns i n)) ≡ summary_of (under ns)
resummed ns i n there some more same =
    ap summary_of (under_set ns i n there)
    ∙ among_others (under (take i ns)) n.leaves (get_or ns i nothing).leaves (under (drop (suc i) ns)) more some same
    ∙ sym (ap summary_of (under_parts ns i nothing there))
