-- The leaves that are recovered are those of the shape.
use Rattle.std.proofs.Common.{◌≡◌, ◌≢◌, ℕ, ◌+◌, true, false, List, [], ◌∷◌, length, Option, Some, None, is_some, refl, sym, ap, ◌∙◌, inl, inr, true≢false, eq-eqb, ne_eqb}
use Rattle.std.proofs.lemmas.Bool.{cases_eq}
use Rattle.codec.specs.declared.dc_record.DcRecord.{DcRecord}
use Rattle.codec.specs.declared.dc_record.DcRecord.TheVariants.{Accept, Split, Merge}
use Rattle.dc_leaf.specs.Leaf.{LeafView}
use Rattle.dc_leaf.specs.Tiles.{Part, part_of, parts_of}
use Rattle.dc_recovery.specs.Images.{leaf_of}
use Rattle.dc_recovery.specs.Shape.{part_in, shape, FitsSplit, FitsMerge, IsLegal, IsOnce}
use Rattle.dc_recovery.specs.Recovery.{Pages, cut_again, merged_again, changed, recovered, leaves_of}
use Rattle.dc_recovery.specs.Laws.{RecoveredHaveShape}
use Rattle.dc_recovery.proofs.Finding.{found_first, found_later, next_left}
use Rattle.dc_recovery.proofs.Splitting.{split_other, split_left}
use Rattle.dc_recovery.proofs.Merging.{merge_other, merge_gone}
use Rattle.dc_recovery.proofs.Shapes.{once}
use Rattle.dc_recovery.proofs.Sound.{fences_recovered}

-- the leaves that are there are those of the shape
pub there : (o : Option Part) → o ≢ None → is_some o ≡ true
there None h = absurd (h refl)
there (Some p) h = refl

pub some_changed : (f : LeafView → LeafView) (o : Option LeafView) → is_some (changed f o) ≡ is_some o
some_changed f None = refl
some_changed f (Some x) = refl

pub is_there : (pages : Pages) (log : List DcRecord) → IsLegal log → (id : ℕ)
    → is_some (recovered pages log id) ≡ is_some (part_in id (shape log))
is_there pages [] legal id =
    elim (cases_eq id 1) [
      | inl e ↦ rw (eq-eqb id 1 e, eq-eqb 1 id (sym e)) refl
      | inr other ↦ rw (ne_eqb id 1 other, ne_eqb 1 id (λ e. other (sym e))) refl
    ]
is_there pages (Accept session ∷ log) legal id = is_there pages log legal.1 id
is_there pages (Split left cut right ∷ log) legal id =
    let fits : FitsSplit log left cut right = legal.0 in
    elim (cases_eq id right.id) [
      | inl e ↦
          rw (eq-eqb id right.id e)
          (sym (ap (λ (x : ℕ). is_some (part_in x (shape (Split left cut right ∷ log)))) e ∙ ap is_some fits.fences))
      | inr fresh ↦ elim (cases_eq id left) [
        | inl e ↦
            rw (ne_eqb id right.id fresh, eq-eqb id left e)
            (some_changed (cut_again (length log + 1) cut) (recovered pages log id)
            ∙ is_there pages log legal.1 id
            ∙ ap (λ (x : ℕ). is_some (part_in x (shape log))) e
            ∙ ap is_some fits.there
            ∙ sym
            (ap (λ (x : ℕ). is_some (part_in x (shape (Split left cut right ∷ log)))) e
            ∙ ap is_some (split_left left right.id cut (shape log) fits.old fits.there)))
        | inr other ↦
            rw (ne_eqb id right.id fresh, ne_eqb id left other)
            (is_there pages log legal.1 id
            ∙ sym (ap is_some (split_other left right.id id cut (shape log) other fresh)))
      ]
    ]
is_there pages (Merge left right merged ∷ log) legal id =
    let fits : FitsMerge log left right merged = legal.0 in
    elim (cases_eq id right) [
      | inl e ↦
          rw (eq-eqb id right e)
          (sym
          (ap (λ (x : ℕ). is_some (part_in x (shape (Merge left right merged ∷ log)))) e
          ∙ ap is_some (merge_gone left right (shape log) (once log legal.1) fits.neighbours)))
      | inr gone ↦ elim (cases_eq id left) [
        | inl e ↦
            rw (ne_eqb id right gone, eq-eqb id left e)
            (some_changed (merged_again (length log + 1) (leaf_of merged)) (recovered pages log id)
            ∙ is_there pages log legal.1 id
            ∙ ap (λ (x : ℕ). is_some (part_in x (shape log))) e
            ∙ there (part_in left (shape log)) (next_left left right (shape log) fits.neighbours)
            ∙ sym
            (ap (λ (x : ℕ). is_some (part_in x (shape (Merge left right merged ∷ log)))) e ∙ ap is_some fits.fences))
        | inr other ↦
            rw (ne_eqb id right gone, ne_eqb id left other)
            (is_there pages log legal.1 id
            ∙ sym (ap is_some (merge_other left right id (shape log) other gone fits.neighbours)))
      ]
    ]

none_there : (o : Option LeafView) → is_some o ≡ false → o ≡ None
none_there None h = refl
none_there (Some x) h = absurd (true≢false h)

-- so the leaves in key order have the shape
pub record IsLeafOf (o : Option LeafView) (p : Part) : Type 0 where
  pub leaf : LeafView
  pub is : o ≡ Some leaf
  pub has : part_of leaf ≡ p

leaf_there : (o : Option LeafView) (p : Part) → is_some o ≡ true
    → ((leaf : LeafView) → o ≡ Some leaf → part_of leaf ≡ p) → IsLeafOf o p
leaf_there None p h has = absurd (true≢false (sym h))
leaf_there (Some leaf) p h has = record { leaf = leaf; is = refl; has = has leaf refl }

all_parts : (at : ℕ → Option LeafView) (ps : List Part) → IsOnce ps
    → ((id : ℕ) (p : Part) → part_in id ps ≡ Some p → IsLeafOf (at id) p) → parts_of (leaves_of at ps) ≡ ps
all_parts at [] once each = refl
all_parts at (p ∷ ps) once each =
    let here : IsLeafOf (at p.id) p = each p.id p (found_first p ps) in
    rw (here.is)
    (ap (λ (x : Part). x ∷ parts_of (leaves_of at ps)) here.has
    ∙ ap (λ (x : List Part). p ∷ x) (all_parts at ps once.1 (λ id q h. each id q (found_later p ps id q once.0 h))))

-- the law
pub have_shape : RecoveredHaveShape
have_shape pages log forced legal fit = record {
  each = fences_recovered pages log forced legal fit;
  none = λ id h. none_there (recovered pages log id) (is_there pages log legal id ∙ ap is_some h);
  all = all_parts (recovered pages log) (shape log) (once log legal) (λ id p h.
      leaf_there (recovered pages log id) p (is_there pages log legal id ∙ ap is_some h) (λ leaf is.
      let both : Some (part_of leaf) ≡ Some p =
      sym (fences_recovered pages log forced legal fit id leaf is).fences ∙ h in
      cc));
}
