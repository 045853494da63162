-- The rows of leaves, one after another, the greatest number of their entries, and their greatest low number.
use Rattle.std.proofs.Common.{◌≡◌, ℕ, ◌+◌, ◌<◌, List, [], ◌∷◌, ◌++◌, length, get_or, take, refl, sym, ap, ◌∙◌, arith, append_assoc, append-nil}
use Rattle.std.specs.Prelude.{max}
use Rattle.std.proofs.lemmas.List.{take_more}
use Rattle.std.specs.FinMap.{entries}
use Rattle.dc_leaf.specs.Leaf.{LeafView, first}
use Rattle.dc_leaf.specs.Tops.{top}
use Rattle.dc_tree.specs.Leaves.{all_rows}
use Rattle.dc_core.specs.DcView.{top_of, top_low}

rows_after : (xs : List LeafView) (leaf : LeafView) → all_rows (xs ++ leaf ∷ []) ≡ all_rows xs ++ entries leaf.rows
rows_after [] leaf = append-nil (entries leaf.rows)
rows_after (x ∷ xs) leaf =
    ap (λ rows. entries x.rows ++ rows) (rows_after xs leaf)
    ∙ sym (append_assoc (entries x.rows) (all_rows xs) (entries leaf.rows))

-- the rows of one leaf more
pub rows_more : (leaves : List LeafView) (p : ℕ) → p < length leaves
    → all_rows (take (p + 1) leaves) ≡ all_rows (take p leaves) ++ entries (get_or leaves p first).rows
rows_more leaves p within =
    ap all_rows (take_more leaves p first within) ∙ rows_after (take p leaves) (get_or leaves p first)

-- the greatest number of their entries, with one leaf more
top_after : (xs : List LeafView) (leaf : LeafView) → top_of (xs ++ leaf ∷ []) ≡ max (top leaf) (top_of xs)
top_after [] leaf = refl
top_after (x ∷ xs) leaf = omega (arith, top_after xs leaf)

pub top_more : (leaves : List LeafView) (p : ℕ) → p < length leaves
    → top_of (take (p + 1) leaves) ≡ max (top (get_or leaves p first)) (top_of (take p leaves))
top_more leaves p within =
    ap top_of (take_more leaves p first within) ∙ top_after (take p leaves) (get_or leaves p first)

-- their greatest low number, with one leaf more
low_after : (xs : List LeafView) (leaf : LeafView) → top_low (xs ++ leaf ∷ []) ≡ max leaf.ab.low (top_low xs)
low_after [] leaf = refl
low_after (x ∷ xs) leaf = omega (arith, low_after xs leaf)

pub low_more : (leaves : List LeafView) (p : ℕ) → p < length leaves
    → top_low (take (p + 1) leaves) ≡ max (get_or leaves p first).ab.low (top_low (take p leaves))
low_more leaves p within =
    ap top_low (take_more leaves p first within) ∙ low_after (take p leaves) (get_or leaves p first)
