-- What a request below nodes leaves.
use Rattle.std.proofs.Common.{◌≡◌, ℕ, ◌+◌, [], ◌∷◌, length, get_or, set, take, Option, Vec, vec_capacity, Result, Ok, Err, refl, sym, ap, ◌∙◌, subst, arith, inl, inr}
use Rattle.std.specs.declared.alloc.Global.{Global}
use Rattle.std.proofs.lemmas.Bool.{cases_Bool}
use Rattle.std.proofs.lemmas.List.{get_or_default}
use Rattle.record_key.specs.declared.op.Op.{Op}
use Rattle.record_key.specs.declared.op.Answer.{Answer}
use Rattle.record_key.specs.declared.refusal.Refusal.{Refusal}
use Rattle.record_key.specs.Table.{Bytes, key_of}
use Rattle.dc_ab_lsn.specs.AbLsn.{captures}
use Rattle.dc_leaf.specs.declared.leaf.Done.{Done}
use Rattle.dc_leaf.specs.Leaf.{LeafView, first}
use Rattle.dc_tree.specs.Choosing.{summary_of}
use Rattle.dc_tree.specs.Nodes.{TreeNodeView, nothing, over_leaf, under, height_in, IsChild}
use Rattle.dc_tree.specs.Finding.{IsIn, IsNodeOf, IsPlaceOf}
use Rattle.dc_tree.specs.Performs.{IsAsked, IsAskedBelow}
use Rattle.dc_tree.specs.declared.tree.node.Below.TheVariants.{Inner}
use Rattle.dc_tree.specs.declared.tree.summary.Summary.{Summary}
use Rattle.dc_tree.specs.Below.{seen, IsNode}
use Rattle.dc_tree.proofs.AtPlace.{leaf_in}
use Rattle.dc_tree.proofs.Changed.{IsChanged, inner_changed, same_count}
use Rattle.dc_tree.proofs.PlaceOf.{here, place_of_nodes}
use Rattle.dc_tree.proofs.Resummed.{resummed}
use Rattle.dc_tree.proofs.Whole.{all_get}

-- ---- at a leaf alone

pub alone : (leaf : LeafView) (k : Bytes) → IsPlaceOf (leaf ∷ []) k 0
alone leaf k = record {
  there = omega arith;
  starts = λ some. absurd (omega (arith, some));
  ends = λ more. absurd (omega (arith, more));
}

same_low : (old new : LeafView) (n : ℕ) (o : Op) (result : Result Done Refusal) (answer : Option Answer)
    → IsAsked old new n o result answer → new.low_fence ≡ old.low_fence
same_low old new n o (Ok done) answer asked =
    let low : LeafView → Option Bytes = λ (leaf : LeafView). leaf.low_fence in
    elim (cases_Bool (captures old.ab n)) [
      | inl captured ↦ let repeated = rw captured at asked.done in ap low repeated.1.1
      | inr out ↦ let first = rw out at asked.done in ap low first.1.1
    ]
same_low old new n o (Err refusal) answer asked = ap (λ (leaf : LeafView). leaf.low_fence) asked.refused

pub leaf_asked : (old new : LeafView) (n : ℕ) (o : Op) (result : Result Done Refusal) (answer : Option Answer)
    → IsAsked old new n o result answer
    → IsAskedBelow (over_leaf old) n o result answer (over_leaf new)
leaf_asked old new n o result answer asked = record {
  place = 0;
  at = alone old (key_of o);
  changed = record {
    leaves = refl;
    height = refl;
    kids = refl;
    begins = same_low old new n o result answer asked;
  };
  asked = asked;
}

-- ---- below nodes

-- what a request below nodes leaves
pub record IsAfter (low : Option Bytes) (count : ℕ) (summary : Summary) (xs ys : Vec TreeNodeView Global) (n : ℕ) (o : Op)
    (result : Result Done Refusal) (answer : Option Answer) : Type 0 where
  pub kept : IsNode low count summary (Inner ys)
  pub asked : IsAskedBelow (seen (Inner xs)) n o result answer (seen (Inner ys))

pub inner_asked : (low : Option Bytes) (count : ℕ) (summary again : Summary) (xs ys : Vec TreeNodeView Global) (i : ℕ)
    (child node : TreeNodeView) (n : ℕ) (o : Op) (result : Result Done Refusal) (answer : Option Answer)
    → IsNode low count summary (Inner xs) → IsNodeOf xs.items (key_of o) i → child ≡ get_or xs.items i child
    → IsAskedBelow child n o result answer node
    → ys.items ≡ set xs.items i node → vec_capacity ys ≡ vec_capacity xs → again ≡ summary_of (under ys.items)
    → IsAfter low count again xs ys n o result answer
inner_asked low count summary again xs ys i child node n o result answer kept of is below items room summed =
    let q = below.place in
    let p = length (under (take i xs.items)) + q in
    let there : child ≡ get_or xs.items i nothing = is ∙ get_or_default xs.items i child nothing of.there in
    let found : IsPlaceOf (get_or xs.items i nothing).leaves (key_of o) q =
    subst (λ (m : TreeNodeView). IsPlaceOf m.leaves (key_of o) q) there below.at in
    let at : IsIn xs.items p i q = here _ xs.items (key_of o) i q kept.under_it.children of found in
    let change : IsChanged p low count again (Inner xs) (Inner ys) (get_or node.leaves q first) =
    inner_changed p i q low count summary again xs ys child node kept at is below.changed items room summed in
    let old : get_or child.leaves q first ≡ get_or (under xs.items) p first =
    ap (λ (m : TreeNodeView). get_or m.leaves q first) there ∙ sym (leaf_in xs.items p i q at) in
    record {
      kept = change.kept;
      asked = record {
        place = p;
        at = place_of_nodes _ xs.items (key_of o) i q kept.under_it.children of found;
        changed = change.changed;
        asked = subst (λ (leaf : LeafView). IsAsked (get_or (under xs.items) p first) leaf n o result answer)
            (sym change.leaf)
            (subst (λ (leaf : LeafView). IsAsked leaf (get_or node.leaves q first) n o result answer) old below.asked);
      };
    }

-- what it leaves where the child's summary is the same
pub same_asked : (low : Option Bytes) (count : ℕ) (summary : Summary) (xs ys : Vec TreeNodeView Global) (i : ℕ)
    (child node : TreeNodeView) (n : ℕ) (o : Op) (result : Result Done Refusal) (answer : Option Answer)
    → IsNode low count summary (Inner xs) → IsNodeOf xs.items (key_of o) i → child ≡ get_or xs.items i child
    → IsAskedBelow child n o result answer node
    → ys.items ≡ set xs.items i node → vec_capacity ys ≡ vec_capacity xs
    → summary_of node.leaves ≡ summary_of child.leaves
    → IsAfter low count summary xs ys n o result answer × (summary_of (under ys.items) ≡ summary_of (under xs.items))
same_asked low count summary xs ys i child node n o result answer kept of is below items room same =
    let there : child ≡ get_or xs.items i nothing = is ∙ get_or_default xs.items i child nothing of.there in
    let one : IsChild (height_in xs.items) (get_or xs.items i nothing) =
    all_get (IsChild (height_in xs.items)) xs.items i nothing of.there kept.under_it.children in
    let many : length node.leaves ≡ length (get_or xs.items i nothing).leaves =
    same_count below.place child node below.changed ∙ ap (λ (m : TreeNodeView). length m.leaves) there in
    let again : summary_of (under ys.items) ≡ summary_of (under xs.items) =
    ap (λ ms. summary_of (under ms)) items
    ∙ resummed xs.items i node of.there one.whole.some (omega (arith, many, one.whole.some))
    (same ∙ ap (λ (m : TreeNodeView). summary_of m.leaves) there) in (
      inner_asked low count summary summary xs ys i child node n o result answer kept of is below items room
          (kept.summed ∙ sym again),
      again,
    )
