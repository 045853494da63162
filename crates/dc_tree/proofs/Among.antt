-- What is done at one leaf, or put among them, where leaves stand as they are.
use Rattle.std.proofs.Common.{◌≡◌, ℕ, zero, suc, ◌<◌, true, List, length, get_or, set, map, Option, Result, Ok, Err, IfOk, OnErr, refl, sym, ap, ◌∙◌, subst, arith}
use Rattle.std.specs.List.{insert, remove}
use Rattle.std.proofs.lemmas.List.{map-id, set-get_or}
use Rattle.record_key.specs.declared.op.Op.{Op}
use Rattle.record_key.specs.declared.op.Answer.{Answer}
use Rattle.record_key.specs.declared.refusal.Refusal.{Refusal}
use Rattle.record_key.specs.Table.{Bytes, key_of}
use Rattle.dc_leaf.specs.declared.leaf.Done.{Done}
use Rattle.dc_leaf.specs.Leaf.{LeafView, first}
use Rattle.dc_leaf.specs.Parting.{lower_of, upper_of, joined_of}
use Rattle.dc_leaf.specs.Performs.{Performs}
use Rattle.dc_tree.specs.Finding.{IsPlaceOf}
use Rattle.dc_tree.specs.Leaves.{AreLeaves, leaf_at, place_at}
use Rattle.dc_tree.specs.Nodes.{TreeNodeView, IsWhole, IsChangedAt}
use Rattle.dc_tree.specs.Parting.{middle, may_split_at, may_merge_at, split_at, merged_at}
use Rattle.dc_tree.specs.Performs.{PerformsAt}
use Rattle.dc_tree.proofs.PlaceOf.{place_found}
use Rattle.dc_tree.proofs.Searching.{leaf_there, performs_there, split_there, merge_there}

abbrev pub itself : LeafView → LeafView
itself leaf = leaf

pub leaf_found : (leaves : List LeafView) (k : Bytes) (p : ℕ) → AreLeaves leaves → IsPlaceOf leaves k p
    → get_or leaves p first ≡ leaf_at leaves k
leaf_found leaves k p kept at =
    let is = place_found leaves k p kept at in
    let there : place_at leaves k < length leaves = subst (λ (q : ℕ). q < length leaves) is at.there in
    let P : List LeafView → Type 0 = λ (ls : List LeafView). place_at ls k < length leaves in
    ap (λ (q : ℕ). get_or leaves q first) is
    ∙ subst (λ (ls : List LeafView). get_or leaves (place_at ls k) first ≡ leaf_at ls k) (map-id leaves)
    (leaf_there itself leaves k first (subst P (sym (map-id leaves)) there))

performs_at : (leaves : List LeafView) (n : ℕ) (o : Op) (done : Done) (answer : Option Answer) (x : LeafView)
    → place_at leaves (key_of o) < length leaves → Performs (leaf_at leaves (key_of o)) n o done answer x
    → PerformsAt leaves n o done answer (set leaves (place_at leaves (key_of o)) x)
performs_at leaves n o done answer x there performs =
    let P : List LeafView → Type 0 = λ (ls : List LeafView).
    place_at ls (key_of o) < length leaves → Performs (leaf_at ls (key_of o)) n o done answer x
    → PerformsAt ls n o done answer (set leaves (place_at ls (key_of o)) x) in
    let all : P (map itself leaves) = λ there performs.
    subst (λ (ls : List LeafView). PerformsAt (map itself leaves) n o done answer ls)
    (map-id (set leaves (place_at (map itself leaves) (key_of o)) x))
    (performs_there itself leaves n o done answer x there performs) in
    subst P (map-id leaves) all there performs

-- a request at the leaf of its key
pub performs_among : (p : ℕ) (old new : TreeNodeView) (n : ℕ) (o : Op) (result : Result Done Refusal)
    (answer : Option Answer) → AreLeaves old.leaves → IsPlaceOf old.leaves (key_of o) p → IsChangedAt p old new
    → IfOk result (λ done. Performs (get_or old.leaves p first) n o done answer (get_or new.leaves p first))
    → IfOk result (λ done. PerformsAt old.leaves n o done answer new.leaves)
performs_among p old new n o (Ok done) answer kept at change performs =
    let is = place_found old.leaves (key_of o) p kept at in
    let there : place_at old.leaves (key_of o) < length old.leaves =
    subst (λ (q : ℕ). q < length old.leaves) is at.there in
    let at_leaf : Performs (leaf_at old.leaves (key_of o)) n o done answer (get_or new.leaves p first) =
    subst (λ (leaf : LeafView). Performs leaf n o done answer (get_or new.leaves p first))
    (leaf_found old.leaves (key_of o) p kept at) performs in
    subst (λ (ls : List LeafView). PerformsAt old.leaves n o done answer ls)
    (ap (λ (q : ℕ). set old.leaves q (get_or new.leaves p first)) (sym is) ∙ sym change.leaves)
    (performs_at old.leaves n o done answer (get_or new.leaves p first) there at_leaf)
performs_among p old new n o (Err refusal) answer kept at change performs = tt

pub split_among : (leaves : List LeafView) (p id d : ℕ) (x y leaf : LeafView) → may_split_at leaves p ≡ true
    → leaf ≡ get_or leaves p first
    → x ≡ lower_of leaf (middle leaf) d → y ≡ upper_of leaf (middle leaf) id d
    → insert (set leaves p x) (suc p) y ≡ split_at p id d leaves
split_among leaves p id d x y leaf may at lower upper =
    let P : List LeafView → Type 0 = λ (ls : List LeafView).
    may_split_at ls p ≡ true → leaf ≡ get_or ls p first → map itself (insert (set leaves p x) (suc p) y)
    ≡ split_at p id d ls in
    let all : P (map itself leaves) = λ may at. split_there itself leaves p id d x y leaf may at lower upper in
    sym (map-id (insert (set leaves p x) (suc p) y)) ∙ subst P (map-id leaves) all may at

pub merge_among : (leaves : List LeafView) (p d : ℕ) (x : LeafView) → may_merge_at leaves p ≡ true
    → x ≡ joined_of (get_or leaves p first) (get_or leaves (suc p) first) d
    → remove (set leaves p x) (suc p) ≡ merged_at p d leaves
merge_among leaves p d x may is =
    let P : List LeafView → Type 0 = λ (ls : List LeafView).
    may_merge_at ls p ≡ true → x ≡ joined_of (get_or ls p first) (get_or ls (suc p) first) d
    → map itself (remove (set leaves p x) (suc p)) ≡ merged_at p d ls in
    let all : P (map itself leaves) = λ may is. merge_there itself leaves p d x may is in
    sym (map-id (remove (set leaves p x) (suc p))) ∙ subst P (map-id leaves) all may is

-- a node that has more than one leaf is none
pub not_leaf : (node : TreeNodeView) → IsWhole node → 1 < length node.leaves → 0 < node.height
not_leaf node whole more = pick node.height refl
  where
    pick : (h : ℕ) → node.height ≡ h → 0 < h
    pick zero level = absurd (omega (arith, whole.one level, more))
    pick (suc h) level = omega arith

-- a refused one leaves the leaves as they were
pub unchanged_among : (p : ℕ) (old new : TreeNodeView) (result : Result Done Refusal) → IsChangedAt p old new
    → OnErr result (get_or new.leaves p first ≡ get_or old.leaves p first)
    → OnErr result (new.leaves ≡ old.leaves)
unchanged_among p old new (Ok done) change same = tt
unchanged_among p old new (Err refusal) change same =
    change.leaves ∙ ap (λ (leaf : LeafView). set old.leaves p leaf) same ∙ set-get_or old.leaves p first
