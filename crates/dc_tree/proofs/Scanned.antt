-- A walk over leaves in a row, stretch by stretch, and over those below nodes, node by node.
use Rattle.std.proofs.Common.{◌≡◌, ℕ, suc, ◌+◌, ◌-◌, ◌<◌, Bool, true, false, List, [], ◌∷◌, ◌++◌, length, get_or, take, drop, Result, Ok, Err, IfOk, refl, sym, ap, ◌∙◌, subst, arith, append_assoc, length-drop, take_all, add-one, inl, inr, true≢false}
use Rattle.std.specs.FinMap as map
use Rattle.std.proofs.lemmas.Bool.{cases_Bool}
use Rattle.std.proofs.lemmas.List.{drop-append-le}
use Rattle.std.proofs.Math.Seq.{drop-append-add}
use Rattle.record_key.specs.declared.refusal.Refusal.{Refusal}
use Rattle.record_key.specs.Rows.{Row}
use Rattle.record_key.specs.Order.{Range, rows_in}
use Rattle.dc_leaf.specs.Leaf.{LeafView}
use Rattle.dc_tree.specs.Finding.{IsNodeOf}
use Rattle.dc_tree.specs.Nodes.{TreeNodeView, nothing, under, AreChildren}
use Rattle.dc_tree.specs.Scanned.{ends_within, is_ended, found_on, found_from, IsScannedOn, IsScannedFrom}
use Rattle.dc_tree.proofs.PlaceOf.{place_of_nodes}
use Rattle.dc_tree.proofs.Under.{under_more, under_parts}

-- the nodes after one of them
pub nodes_after : (ns : List TreeNodeView) (i : ℕ) → take (length ns - (i + 1)) (drop (i + 1) ns) ≡ drop (suc i) ns
nodes_after ns i =
    rw add-one (take_all (length ns - suc i) (drop (suc i) ns) (omega (arith, length-drop (suc i) ns)))

module _ (s : Range) where
  -- ---- what a stretch with others after it comes to

  ended_past : (xs ys : List LeafView) → is_ended s xs ≡ false → is_ended s (xs ++ ys) ≡ is_ended s ys
  ended_past [] ys goes = refl
  ended_past (x ∷ xs) ys goes =
      elim (cases_Bool (ends_within x.high_fence s.hi)) [
        | inl within ↦ rw within (ended_past xs ys (rw within at goes))
        | inr over ↦ absurd (true≢false (rw over at goes))
      ]

  ended_stays : (xs ys : List LeafView) → is_ended s xs ≡ true → is_ended s (xs ++ ys) ≡ true
  ended_stays [] ys ended = absurd (true≢false (sym ended))
  ended_stays (x ∷ xs) ys ended =
      elim (cases_Bool (ends_within x.high_fence s.hi)) [
        | inl within ↦ rw within (ended_stays xs ys (rw within at ended))
        | inr over ↦ rw over refl
      ]

  on_past : (xs ys : List LeafView) → is_ended s xs ≡ false → found_on s (xs ++ ys) ≡ found_on s xs ++ found_on s ys
  on_past [] ys goes = refl
  on_past (x ∷ xs) ys goes =
      elim (cases_Bool (ends_within x.high_fence s.hi)) [
        | inl within ↦
            rw within
            (ap (λ (more : List Row). map.entries x.rows ++ more) (on_past xs ys (rw within at goes))
            ∙ sym (append_assoc (map.entries x.rows) (found_on s xs) (found_on s ys)))
        | inr over ↦ absurd (true≢false (rw over at goes))
      ]

  on_stays : (xs ys : List LeafView) → is_ended s xs ≡ true → found_on s (xs ++ ys) ≡ found_on s xs
  on_stays [] ys ended = absurd (true≢false (sym ended))
  on_stays (x ∷ xs) ys ended =
      elim (cases_Bool (ends_within x.high_fence s.hi)) [
        | inl within ↦
            rw within
            (ap (λ (more : List Row). map.entries x.rows ++ more) (on_stays xs ys (rw within at ended)))
        | inr over ↦ rw over refl
      ]

  from_past : (xs ys : List LeafView) → 0 < length xs → is_ended s xs ≡ false
      → found_from s (xs ++ ys) ≡ found_from s xs ++ found_on s ys
  from_past [] ys some goes = absurd (omega (arith, some))
  from_past (x ∷ xs) ys some goes =
      elim (cases_Bool (ends_within x.high_fence s.hi)) [
        | inl within ↦
            rw within
            (ap (λ (more : List Row). rows_in s x.rows ++ more) (on_past xs ys (rw within at goes))
            ∙ sym (append_assoc (rows_in s x.rows) (found_on s xs) (found_on s ys)))
        | inr over ↦ absurd (true≢false (rw over at goes))
      ]

  from_stays : (xs ys : List LeafView) → is_ended s xs ≡ true → found_from s (xs ++ ys) ≡ found_from s xs
  from_stays [] ys ended = absurd (true≢false (sym ended))
  from_stays (x ∷ xs) ys ended =
      elim (cases_Bool (ends_within x.high_fence s.hi)) [
        | inl within ↦
            rw within
            (ap (λ (more : List Row). rows_in s x.rows ++ more) (on_stays xs ys (rw within at ended)))
        | inr over ↦ rw over refl
      ]

  -- ---- a walk that goes on, and one that has ended

  scanned_past : (xs ys : List LeafView) (old mid new : List Row) (ended : Bool) → IsScannedOn s xs old mid false
      → IsScannedOn s ys mid new ended → IsScannedOn s (xs ++ ys) old new ended
  scanned_past xs ys old mid new ended one more = record {
    rows =
        more.rows ∙ ap (λ (rows : List Row). rows ++ found_on s ys) one.rows
        ∙ append_assoc old (found_on s xs) (found_on s ys)
        ∙ ap (λ (rows : List Row). old ++ rows) (sym (on_past xs ys (sym one.is)));
    is = more.is ∙ sym (ended_past xs ys (sym one.is));
  }

  scanned_stays : (xs ys : List LeafView) (old new : List Row) → IsScannedOn s xs old new true
      → IsScannedOn s (xs ++ ys) old new true
  scanned_stays xs ys old new one = record {
    rows = one.rows ∙ ap (λ (rows : List Row). old ++ rows) (sym (on_stays xs ys (sym one.is)));
    is = sym (ended_stays xs ys (sym one.is));
  }

  -- ---- node by node

  module _ (ns : List TreeNodeView) (i : ℕ) (n : TreeNodeView) (within : i < length ns) (is : n ≡ get_or ns i n)
      (old mid new : List Row) (so_far : IsScannedOn s (under (take i ns)) old mid false) where
    pub scanned_more : (ended : Bool) → IsScannedOn s n.leaves mid new ended
        → IsScannedOn s (under (take (suc i) ns)) old new ended
    scanned_more ended one =
        let next : under (take i ns) ++ n.leaves ≡ under (take (suc i) ns) =
        ap (λ (m : TreeNodeView). under (take i ns) ++ m.leaves) is ∙ sym (under_more ns i n within) in
        subst (λ (leaves : List LeafView). IsScannedOn s leaves old new ended) next
        (scanned_past (under (take i ns)) n.leaves old mid new ended so_far one)

    pub scanned_ended : IsScannedOn s n.leaves mid new true → IsScannedOn s (under ns) old new true
    scanned_ended one =
        let rest : List LeafView = under (drop (suc i) ns) in
        let all : under (take i ns) ++ (n.leaves ++ rest) ≡ under ns =
        ap (λ (m : TreeNodeView). under (take i ns) ++ (m.leaves ++ rest)) is ∙ sym (under_parts ns i n within) in
        subst (λ (leaves : List LeafView). IsScannedOn s leaves old new true) all
        (scanned_past (under (take i ns)) (n.leaves ++ rest) old mid new true so_far
        (scanned_stays n.leaves rest mid new one))

  -- the walk that begins in the i-th node
  module _ (height : ℕ) (ns : List TreeNodeView) (i : ℕ) (are : AreChildren height ns) (node : IsNodeOf ns s.lo i) where
    abbrev here : List LeafView
    here = (get_or ns i nothing).leaves

    abbrev rest : List LeafView
    rest = under (drop (suc i) ns)

    from_here : (q : ℕ) → q < length here → drop (length (under (take i ns)) + q) (under ns) ≡ drop q here ++ rest
    from_here q within =
        ap (drop (length (under (take i ns)) + q)) (under_parts ns i nothing node.there)
        ∙ drop-append-add (under (take i ns)) (here ++ rest) q
        ∙ drop-append-le q here rest (omega (arith, within))

    pub from_ended : (old new : List Row) → IsScannedFrom s here old new true → IsScannedFrom s (under ns) old new true
    from_ended old new one =
        let q : ℕ = one.place in
        let on : drop (length (under (take i ns)) + q) (under ns) ≡ drop q here ++ rest = from_here q one.at.there in
        record {
          place = length (under (take i ns)) + q;
          at = place_of_nodes height ns s.lo i q are node one.at;
          rows = one.rows ∙ ap (λ (rows : List Row). old ++ rows)
              (sym (ap (found_from s) on ∙ from_stays (drop q here) rest (sym one.is)));
          is = sym (ap (is_ended s) on ∙ ended_stays (drop q here) rest (sym one.is));
        }

    goes_on : (old mid new : List Row) (ended : Bool) → IsScannedFrom s here old mid false
        → IsScannedOn s rest mid new ended
        → IsScannedFrom s (under ns) old new ended
    goes_on old mid new ended one more =
        let q : ℕ = one.place in
        let on : drop (length (under (take i ns)) + q) (under ns) ≡ drop q here ++ rest = from_here q one.at.there in
        let some : 0 < length (drop q here) = omega (arith, one.at.there, length-drop q here) in
        record {
          place = length (under (take i ns)) + q;
          at = place_of_nodes height ns s.lo i q are node one.at;
          rows =
              more.rows ∙ ap (λ (rows : List Row). rows ++ found_on s rest) one.rows
              ∙ append_assoc old (found_from s (drop q here)) (found_on s rest)
              ∙ ap (λ (rows : List Row). old ++ rows)
              (sym (ap (found_from s) on ∙ from_past (drop q here) rest some (sym one.is)));
          is = more.is ∙ sym (ap (is_ended s) on ∙ ended_past (drop q here) rest (sym one.is));
        }

    pub from_on : (old mid new : List Row) (result : Result Bool Refusal) → IsScannedFrom s here old mid false
        → IfOk result (λ ended. IsScannedOn s rest mid new ended)
        → IfOk result (λ ended. IsScannedFrom s (under ns) old new ended)
    from_on old mid new (Ok ended) one more = goes_on old mid new ended one more
    from_on old mid new (Err refusal) one more = tt
