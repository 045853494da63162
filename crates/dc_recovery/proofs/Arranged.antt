-- Leaves that tile the keys are known by which leaves stand among them.
use Rattle.std.proofs.Common.{◌≡◌, ◌≢◌, ℕ, true, false, List, [], ◌∷◌, Option, Some, None, refl, sym, ap, ap₂, ◌∙◌, subst, inl, inr, true≢false, ne_eqb}
use Rattle.std.proofs.lemmas.Bool.{cases_Bool, cases_eq}
use Rattle.record_key.specs.Table.{Bytes}
use Rattle.codec.specs.declared.dc_record.DcRecord.{DcRecord}
use Rattle.record_key.specs.Order.{is_below}
use Rattle.dc_leaf.specs.Leaf.{LeafView}
use Rattle.dc_leaf.specs.Tiles.{Part, part_of, parts_of, starts_below, TileFrom}
use Rattle.dc_leaf.proofs.Halves.{below_trans}
use Rattle.dc_leaf.proofs.Starts.{no_parts}
use Rattle.dc_recovery.specs.Shape.{part_in, shape, IsLegal}
use Rattle.dc_recovery.specs.Recovery.{Pages, recovered, with_leaf, leaves_of, recover}
use Rattle.dc_recovery.specs.Laws.{IsCurrent, HasShape, IsIn, IsArranged, ArrangedOnce}
use Rattle.dc_recovery.proofs.Splitting.{Rest}
use Rattle.dc_recovery.proofs.Keys.{not_below}
use Rattle.dc_recovery.proofs.Shapes.{tile}
use Rattle.dc_recovery.proofs.Presence.{have_shape}

-- the fence is there, and isn't below a key: so begin leaves that tile the keys from there on
pub record IsFrom (h : Bytes) (low : Option Bytes) : Type 0 where
  pub key : Bytes
  pub is : low ≡ Some key
  pub above : is_below key h ≡ false

still_from : (h k : Bytes) (low : Option Bytes) → is_below h k ≡ true → IsFrom k low → IsFrom h low
still_from h k low less f = record {
  key = f.key;
  is = f.is;
  above =
      elim
      (cases_Bool (is_below f.key h)) [
        | inl under ↦ absurd
            (true≢false (sym (below_trans f.key h k under less) ∙ f.above))
        | inr above ↦ above
      ];
}

-- what follows tiles the keys from a key on, above where this began
pub record IsLater (low : Option Bytes) (xs : List LeafView) : Type 0 where
  pub key : Bytes
  pub above : starts_below low key ≡ true
  pub tile : TileFrom (Some key) (parts_of xs)

pub later : (low high : Option Bytes) (x : LeafView) (xs : List LeafView) → Rest low high (parts_of xs) → IsIn x xs
    → IsLater low xs
later low None x [] r at = absurd at
later low None x (y ∷ ys) r at = absurd (cc)
later low (Some h) x xs r at = record { key = h; above = r.0; tile = r.1 }

pub all_from : (h : Bytes) (xs : List LeafView) (x : LeafView) → TileFrom (Some h) (parts_of xs) → IsIn x xs
    → IsFrom h x.low_fence
all_from h [] x tile at = absurd at
all_from h (y ∷ ys) x tile (inl e) =
    record { key = h; is = ap (λ (z : LeafView). z.low_fence) e ∙ tile.0; above = not_below h }
all_from h (y ∷ ys) x tile (inr at) =
    let l = later y.low_fence y.high_fence x ys tile.1 at in
    still_from h l.key x.low_fence (subst (λ (z : Option Bytes). starts_below z l.key ≡ true) tile.0 l.above)
    (all_from l.key ys x l.tile at)

no_start : (low other : Option Bytes) (h : Bytes) → starts_below low h ≡ true → IsFrom h other → other ≢ low
no_start None other h above f e = let no : Some f.key ≡ None = sym f.is ∙ e in cc
no_start (Some low) other h above f e =
    let both : Some f.key ≡ Some low = sym f.is ∙ e in
    let same : f.key ≡ low = cc in
    true≢false (sym above ∙ ap (λ x. is_below x h) (sym same) ∙ f.above)

pub not_later : (x : LeafView) (y : LeafView) (ys : List LeafView) → Rest y.low_fence y.high_fence (parts_of ys)
    → x.low_fence ≡ y.low_fence → IsIn x ys → ⊥
not_later x y ys r e at =
    let l = later y.low_fence y.high_fence x ys r at in
    no_start y.low_fence x.low_fence l.key l.above (all_from l.key ys x l.tile at) e

-- what follows in each
pub same_rest : (x y : LeafView) (xs ys : List LeafView) → Rest x.low_fence x.high_fence (parts_of xs) → x ≡ y
    → ((z : LeafView) → IsIn z (x ∷ xs) → IsIn z (y ∷ ys))
    → (z : LeafView) → IsIn z xs → IsIn z ys
same_rest x y xs ys r e to z at =
    elim (to z (inr at)) [
      | inl same ↦ absurd (not_later z x xs r (ap (λ (l : LeafView). l.low_fence) (same ∙ sym e)) at)
      | inr there ↦ there
    ]

tails : (low other high : Option Bytes) (xs ys : List LeafView)
    → ((h : Bytes) → TileFrom (Some h) (parts_of xs) → TileFrom (Some h) (parts_of ys) → xs ≡ ys)
    → Rest low high (parts_of xs) → Rest other high (parts_of ys) → xs ≡ ys
tails low other None xs ys same r s = no_parts xs r ∙ sym (no_parts ys s)
tails low other (Some h) xs ys same r s = same h r.1 s.1

-- leaves that tile the keys from one fence, the same leaves in both, stand in the same order
same_tiles : (xs ys : List LeafView) (from : Option Bytes) → TileFrom from (parts_of xs) → TileFrom from (parts_of ys)
    → ((z : LeafView) → IsIn z xs → IsIn z ys)
    → ((z : LeafView) → IsIn z ys → IsIn z xs) → xs ≡ ys
same_tiles [] ys from r s to back = absurd r
same_tiles (x ∷ xs) [] from r s to back = absurd s
same_tiles (x ∷ xs) (y ∷ ys) from r s to back =
    let e : x ≡ y =
    elim (to x (inl refl)) [ inl same ↦ same | inr at ↦ absurd (not_later x y ys s.1 (r.0 ∙ sym s.0) at) ] in
    let other : Rest y.low_fence x.high_fence (parts_of ys) =
    subst (λ (l : LeafView). Rest y.low_fence l.high_fence (parts_of ys)) (sym e) s.1 in
    ap₂ (λ (l : LeafView) (ls : List LeafView). l ∷ ls) e
    (tails x.low_fence y.low_fence x.high_fence xs ys
    (λ h t u. same_tiles xs ys (Some h) t u (same_rest x y xs ys r.1 e to)
    (same_rest y x ys xs s.1 (sym e) back)) r.1 other)

-- the leaf is found by some number
pub record IsAt (at : ℕ → Option LeafView) (leaf : LeafView) : Type 0 where
  pub id : ℕ
  pub is : at id ≡ Some leaf

with_in : (at : ℕ → Option LeafView) (id : ℕ) (o : Option LeafView) (leaves : List LeafView) (leaf : LeafView)
    → at id ≡ o → IsIn leaf (with_leaf o leaves) → (IsIn leaf leaves → IsAt at leaf) → IsAt at leaf
with_in at id None leaves leaf is h rest = rest h
with_in at id (Some x) leaves leaf is (inl e) rest = record { id = id; is = is ∙ ap (λ (l : LeafView). Some l) (sym e) }
with_in at id (Some x) leaves leaf is (inr h) rest = rest h

in_leaves : (at : ℕ → Option LeafView) (ps : List Part) (leaf : LeafView) → IsIn leaf (leaves_of at ps) → IsAt at leaf
in_leaves at [] leaf h = absurd h
in_leaves at (p ∷ ps) leaf h = with_in at p.id (at p.id) (leaves_of at ps) leaf refl h (in_leaves at ps leaf)

in_with : (o : Option LeafView) (leaves : List LeafView) (leaf : LeafView) → IsIn leaf leaves
    → IsIn leaf (with_leaf o leaves)
in_with None leaves leaf h = h
in_with (Some x) leaves leaf h = inr h

leaves_in : (at : ℕ → Option LeafView) (ps : List Part) (id : ℕ) (p : Part) (leaf : LeafView) → part_in id ps ≡ Some p
    → at id ≡ Some leaf → IsIn leaf (leaves_of at ps)
leaves_in at [] id p leaf h is = absurd (cc)
leaves_in at (q ∷ ps) id p leaf h is =
    elim (cases_eq q.id id) [
      | inl e ↦
          let here : at q.id ≡ Some leaf = ap at e ∙ is in
          subst (λ (o : Option LeafView). IsIn leaf (with_leaf o (leaves_of at ps))) (sym here) (inl refl)
      | inr apart ↦
          in_with (at q.id) (leaves_of at ps) leaf (leaves_in at ps id p leaf (rw (ne_eqb q.id id apart) at h) is)
    ]

arranged : (pages : Pages) (log : List DcRecord) → IsLegal log → HasShape pages log
    → IsArranged pages log (recover pages log)
arranged pages log legal has = record {
  tile = subst (λ (x : List Part). TileFrom None x) (sym has.all) (tile log legal);
  sound = λ leaf h.
      let at = in_leaves (recovered pages log) (shape log) leaf h in
      let current : IsCurrent log at.id leaf = has.each at.id leaf at.is in
      ap (recovered pages log) current.own ∙ at.is;
  whole =
      λ id leaf is. leaves_in (recovered pages log) (shape log) id (part_of leaf) leaf (has.each id leaf is).fences is;
}

-- the law
pub arranged_once : ArrangedOnce
arranged_once pages log forced legal fit =
    let ours : IsArranged pages log (recover pages log) =
    arranged pages log legal (have_shape pages log forced legal fit) in (
      ours,
      λ leaves theirs.
          same_tiles leaves (recover pages log) None theirs.tile ours.tile (λ z h. ours.whole z.id z (theirs.sound z h))
          (λ z h. theirs.whole z.id z (ours.sound z h)),
    )
