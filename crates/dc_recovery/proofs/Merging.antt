-- What two parts put together leave of parts that tile the keys.
use Rattle.std.proofs.Common.{◌≡◌, ◌≢◌, ℕ, ◌==◌, true, List, [], ◌∷◌, ◌++◌, Option, Some, None, refl, sym, ap, ap₂, ◌∙◌, subst, inl, inr, eq-eqb, ne_eqb}
use Rattle.std.specs.Prelude.{if◌then◌else◌}
use Rattle.std.proofs.lemmas.Bool.{cases_eq}
use Rattle.record_key.specs.Table.{Bytes}
use Rattle.dc_leaf.specs.Tiles.{Part, starts_below, TileFrom}
use Rattle.dc_leaf.proofs.Starts.{starts_further}
use Rattle.dc_recovery.specs.Shape.{part_in, first_id, next_id, with_next, merge_parts, IsOnce}
use Rattle.dc_recovery.proofs.Finding.{not_in, none_in, next_there}
use Rattle.dc_recovery.proofs.Splitting.{Rest, rest_kept}

-- two put together change no other part, and the second one is gone
with_other : (id right : ℕ) (p : Part) (ps : List Part) → p.id ≢ id → first_id ps ≡ Some right → id ≢ right
    → part_in id (with_next p ps) ≡ part_in id (p ∷ ps)
with_other id right p [] apart next other = refl
with_other id right p (q ∷ qs) apart next other =
    let e : q.id ≡ right = cc in rw (ne_eqb p.id id apart, ne_eqb q.id id (λ same. other (sym same ∙ e))) refl

pub merge_other : (left right id : ℕ) (ps : List Part) → id ≢ left → id ≢ right → next_id left ps ≡ Some right
    → part_in id (merge_parts left ps) ≡ part_in id ps
merge_other left right id [] other gone next = refl
merge_other left right id (p ∷ ps) other gone next =
    elim (cases_eq p.id left) [
      | inl e ↦
          rw (eq-eqb p.id left e)
          (with_other id right p ps (λ same. other (sym same ∙ e)) (rw (eq-eqb p.id left e) at next) gone)
      | inr apart ↦
          rw (ne_eqb p.id left apart)
          (ap (λ x. if p.id == id then Some p else x)
          (merge_other left right id ps other gone (rw (ne_eqb p.id left apart) at next)))
    ]

with_none : (id : ℕ) (p : Part) (ps : List Part) → p.id ≢ id → part_in id ps ≡ None → part_in id (with_next p ps) ≡ None
with_none id p [] apart none = none_in id p [] apart refl
with_none id p (q ∷ qs) apart none = none_in id (record p { high = q.high }) qs apart (not_in id q qs none).rest

pub merge_none : (left id : ℕ) (ps : List Part) → part_in id ps ≡ None → part_in id (merge_parts left ps) ≡ None
merge_none left id [] none = refl
merge_none left id (p ∷ ps) none =
    let out = not_in id p ps none in
    elim (cases_eq p.id left) [
      | inl e ↦ rw (eq-eqb p.id left e) (with_none id p ps out.first out.rest)
      | inr apart ↦
          rw (ne_eqb p.id left apart) (none_in id p (merge_parts left ps) out.first (merge_none left id ps out.rest))
    ]

with_gone : (right : ℕ) (p : Part) (ps : List Part) → IsOnce (p ∷ ps) → first_id ps ≡ Some right
    → part_in right (with_next p ps) ≡ None
with_gone right p [] once next = absurd (cc)
with_gone right p (q ∷ qs) once next =
    let e : q.id ≡ right = cc in
    none_in right (record p { high = q.high }) qs (λ same. (not_in p.id q qs once.0).first (e ∙ sym same))
    (subst (λ (x : ℕ). part_in x qs ≡ None) e once.1.0)

pub merge_gone : (left right : ℕ) (ps : List Part) → IsOnce ps → next_id left ps ≡ Some right
    → part_in right (merge_parts left ps) ≡ None
merge_gone left right [] once next = refl
merge_gone left right (p ∷ ps) once next =
    elim (cases_eq p.id left) [
      | inl e ↦ rw (eq-eqb p.id left e) (with_gone right p ps once (rw (eq-eqb p.id left e) at next))
      | inr apart ↦
          let later : next_id left ps ≡ Some right = rw (ne_eqb p.id left apart) at next in
          rw (ne_eqb p.id left apart)
          (none_in right p (merge_parts left ps)
          (λ same. next_there left right ps later (subst (λ (x : ℕ). part_in x ps ≡ None) same once.0))
          (merge_gone left right ps once.1 later))
    ]

with_left : (left right : ℕ) (x : Part) (xs : List Part) (p q : Part) → x.id ≡ left → IsOnce (x ∷ xs)
    → first_id xs ≡ Some right → part_in left (x ∷ xs) ≡ Some p
    → part_in right (x ∷ xs) ≡ Some q → part_in left (with_next x xs) ≡ Some (record p { high = q.high })
with_left left right x [] p q e once next here there = absurd (cc)
with_left left right x (y ∷ ys) p q e once next here there =
    let same : y.id ≡ right = cc in
    let first : Some x ≡ Some p = rw (eq-eqb x.id left e) at here in
    let apart : x.id ≢ right = λ is. (not_in x.id y ys once.0).first (same ∙ sym is) in
    let second : Some y ≡ Some q = rw (ne_eqb x.id right apart, eq-eqb y.id right same) at there in
    let one : x ≡ p = cc in
    let two : y ≡ q = cc in
    rw (eq-eqb x.id left e) (ap₂ (λ (a b : Part). Some (record a { high = b.high })) one two)

pub merge_left : (left right : ℕ) (ps : List Part) (p q : Part) → IsOnce ps → next_id left ps ≡ Some right
    → part_in left ps ≡ Some p → part_in right ps ≡ Some q
    → part_in left (merge_parts left ps) ≡ Some (record p { high = q.high })
merge_left left right [] p q once next here there = absurd (cc)
merge_left left right (x ∷ xs) p q once next here there =
    elim (cases_eq x.id left) [
      | inl e ↦
          rw (eq-eqb x.id left e) (with_left left right x xs p q e once (rw (eq-eqb x.id left e) at next) here there)
      | inr apart ↦
          let later : next_id left xs ≡ Some right = rw (ne_eqb x.id left apart) at next in
          let other : x.id ≢ right =
          λ same. next_there left right xs later (subst (λ (z : ℕ). part_in z xs ≡ None) same once.0) in
          rw (ne_eqb x.id left apart, ne_eqb x.id left apart)
          (merge_left left right xs p q once.1 later (rw (ne_eqb x.id left apart) at here)
          (rw (ne_eqb x.id right other) at there))
    ]

with_once : (p : Part) (ps : List Part) → IsOnce (p ∷ ps) → IsOnce (with_next p ps)
with_once p [] once = once
with_once p (q ∷ qs) once = ((not_in p.id q qs once.0).rest, once.1.1)

pub merge_once : (left : ℕ) (ps : List Part) → IsOnce ps → IsOnce (merge_parts left ps)
merge_once left [] once = tt
merge_once left (p ∷ ps) once =
    elim (cases_eq p.id left) [
      | inl e ↦ rw (eq-eqb p.id left e) (with_once p ps once)
      | inr apart ↦ rw (ne_eqb p.id left apart) (merge_none left p.id ps once.0, merge_once left ps once.1)
    ]

rest_joined : (low from high : Option Bytes) (h : Bytes) (ps : List Part) → starts_below low h ≡ true → from ≡ Some h
    → Rest from high ps → Rest low high ps
rest_joined low from None h ps above e r = r
rest_joined low from (Some k) h ps above e r =
    let under : starts_below (Some h) k ≡ true = subst (λ (x : Option Bytes). starts_below x k ≡ true) e r.0 in
    (starts_further low h k above under, r.1)

with_rest : (low high : Option Bytes) (q : Part) (qs : List Part) → Rest low high (q ∷ qs) → Rest low q.high qs
with_rest low None q qs r = absurd (cc)
with_rest low (Some h) q qs r = rest_joined low q.low q.high h qs r.0 r.1.0 r.1.1

with_tile : (from : Option Bytes) (p : Part) (ps : List Part) → TileFrom from (p ∷ ps) → TileFrom from (with_next p ps)
with_tile from p [] tile = tile
with_tile from p (q ∷ qs) tile = (tile.0, with_rest p.low p.high q qs tile.1)

pub merge_tile : (left : ℕ) (ps : List Part) (from : Option Bytes) → TileFrom from ps
    → TileFrom from (merge_parts left ps)
merge_tile left [] from tile = tile
merge_tile left (p ∷ ps) from tile =
    elim (cases_eq p.id left) [
      | inl e ↦ rw (eq-eqb p.id left e) (with_tile from p ps tile)
      | inr apart ↦
          rw (ne_eqb p.id left apart) (
            tile.0,
            rest_kept p.low p.high ps (merge_parts left ps) (λ e. ap (merge_parts left) e)
                (λ h r. merge_tile left ps (Some h) r) tile.1,
          )
    ]

-- two parts amid others, put together
pub merge_at : (ps qs : List Part) (p q : Part) → part_in p.id ps ≡ None
    → merge_parts p.id (ps ++ p ∷ q ∷ qs) ≡ ps ++ record p { high = q.high } ∷ qs
merge_at [] qs p q none = rw (eq-eqb p.id p.id refl) refl
merge_at (x ∷ ps) qs p q none =
    let out = not_in p.id x ps none in
    rw (ne_eqb x.id p.id out.first) (ap (λ (rest : List Part). x ∷ rest) (merge_at ps qs p q out.rest))
